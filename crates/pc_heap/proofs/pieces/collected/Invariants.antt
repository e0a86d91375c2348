use Rattle.std.proofs.Common.{◌≡◌, ◌++◌, length}
use Rattle.std.specs.List.{concat}
use Rattle.pc_heap.proofs.pieces.collected.Given as goal

abbrev pub invariant-rest : goal.invariant-rest
invariant-rest l = record { so_far : l.bytes.items ++ concat l.rest ≡ concat l.pieces }

abbrev pub decreases-rest : goal.decreases-rest
decreases-rest l = length l.rest
