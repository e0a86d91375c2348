use Rattle.std.proofs.Common.{◌≡◌}
use Rattle.pc_judge.proofs.Kept.{KeptBefore}
use Rattle.pc_judge.proofs.slots.wrong_slot.Given as goal

abbrev pub invariant-loop-slot : goal.invariant-loop-slot
invariant-loop-slot l = record { kept : KeptBefore l.core l.ann l.slot-index; at : l.number ≡ l.slot-index }
