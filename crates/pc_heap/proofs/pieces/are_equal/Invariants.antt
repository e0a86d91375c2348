use Rattle.std.proofs.Common.{◌≡◌, ◌++◌, length}
use Rattle.std.specs.{List.concat, Str.bytes_eq}
use Rattle.pc_heap.proofs.pieces.are_equal.Given as goal

abbrev pub invariant-rest : goal.invariant-rest
invariant-rest l = record { so_far : bytes_eq (concat l.left) (l.right.piece.now ++ concat l.right.behind.now) ≡ bytes_eq (concat l.rest) (l.others.piece.now ++ concat l.others.behind.now) }

abbrev pub decreases-rest : goal.decreases-rest
decreases-rest l = length l.rest
