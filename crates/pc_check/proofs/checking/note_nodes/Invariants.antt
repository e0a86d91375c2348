use Rattle.pc_check.specs.Walked.{Walked}
use Rattle.pc_check.proofs.checking.note_nodes.Given as goal

abbrev pub invariant-loop-number : goal.invariant-loop-number
invariant-loop-number l = Walked l.core l.ann l.number
