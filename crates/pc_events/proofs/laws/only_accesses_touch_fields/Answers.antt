use Rattle.pc_events.proofs.OnlyAccesses.{only_accesses_touch_fields}
use Rattle.pc_events.proofs.laws.only_accesses_touch_fields.Goals as goal

pub returns : goal.returns
returns c = only_accesses_touch_fields c.only_moves_change.ensures
