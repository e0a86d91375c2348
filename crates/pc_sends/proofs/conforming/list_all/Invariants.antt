use Rattle.pc_sends.proofs.Listed.{ListsTo}
use Rattle.pc_sends.proofs.conforming.list_all.Given as goal

abbrev pub invariant-loop-known : goal.invariant-loop-known
invariant-loop-known l = ListsTo l.core l.known l.lists
