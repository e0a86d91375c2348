use Rattle.std.proofs.Common.{◌≡◌, ◌++◌, length}
use Rattle.pc_heap.proofs.pieces.add_all.Given as goal

abbrev pub invariant-rest : goal.invariant-rest
invariant-rest l = record { so_far : l.pieces.items ++ l.rest ≡ l.initial.pieces.items ++ l.more }

abbrev pub decreases-rest : goal.decreases-rest
decreases-rest l = length l.rest
