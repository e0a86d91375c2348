use Rattle.pc_list_steps.proofs.Underway.{Underway}
use Rattle.std.proofs.Common.{◌≡◌}
use Rattle.pc_list_steps.proofs.steps.take_steps.Given as goal

abbrev pub invariant-loop-at : goal.invariant-loop-at
invariant-loop-at l = record { underway : Underway l.fn.machine.core l.actors l.at l.machine.configuration; core : l.machine.core ≡ l.fn.machine.core }
