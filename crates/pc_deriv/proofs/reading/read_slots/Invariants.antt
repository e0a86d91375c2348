use Rattle.std.proofs.Common.{length, ◌-◌, ◌≤◌}
use Rattle.pc_deriv.specs.Text.{slot_line, SlotFits, BeginsLine}
use Rattle.pc_deriv.proofs.reading.read_slots.Given as goal

abbrev pub invariant-loop-rest : goal.invariant-loop-rest
invariant-loop-rest l = (length l.slots ≤ l.count) × BeginsLine slot_line SlotFits l.text l.slots l.rest

abbrev pub decreases-loop-rest : goal.decreases-loop-rest
decreases-loop-rest l = l.count - length l.slots
