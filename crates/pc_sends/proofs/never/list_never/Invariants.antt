use Rattle.pc_sends.specs.Unsent.{IsUnsent}
use Rattle.pc_sends.proofs.Filtered.{Filtered}
use Rattle.pc_sends.proofs.never.list_never.Given as goal

abbrev pub invariant-loop-number : goal.invariant-loop-number
invariant-loop-number l = Filtered (IsUnsent l.core l.rows) l.number l.numbers
