use Rattle.std.proofs.Common.{◌≡◌, ◌++◌, drop}
use Rattle.pc_elab.proofs.texts.list_texts.Given as goal

abbrev pub invariant-loop-number : goal.invariant-loop-number
invariant-loop-number l = l.table ≡ l.texts ++ drop l.number l.table
