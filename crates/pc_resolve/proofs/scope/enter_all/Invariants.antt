use Rattle.std.proofs.Common.{◌≡◌, ◌++◌, drop}
use Rattle.pc_resolve.proofs.scope.enter_all.Given as goal

abbrev pub invariant-loop-visible : goal.invariant-loop-visible
invariant-loop-visible l = l.fn.scope ++ l.row ≡ l.scope ++ drop l.visible-index l.row
