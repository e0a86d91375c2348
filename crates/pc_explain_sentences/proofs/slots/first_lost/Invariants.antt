use Rattle.std.proofs.Common.{◌≡◌, ◌-◌}
use Rattle.pc_base.specs.Limits.{slot_limit}
use Rattle.pc_explain_sentences.specs.Slots.{is_lost, least}
use Rattle.pc_explain_sentences.proofs.slots.first_lost.Given as goal

abbrev pub invariant-loop-slot : goal.invariant-loop-slot
invariant-loop-slot l = least (is_lost l.before l.after) (slot_limit - l.slot) l.slot ≡ least (is_lost l.before l.after) slot_limit 0
