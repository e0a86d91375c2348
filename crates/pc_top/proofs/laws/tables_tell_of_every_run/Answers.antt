use Rattle.pc_top.proofs.Rooms.Sends.Tells.{tables_tell}
use Rattle.pc_top.proofs.laws.tables_tell_of_every_run.Goals as goal

pub returns : goal.returns
returns c = tables_tell c.cores_of_sources_are_formed.ensures c.accepted_held.ensures c.held_covers.ensures
