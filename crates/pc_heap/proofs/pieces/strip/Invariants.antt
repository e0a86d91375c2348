use Rattle.std.proofs.Common.{◌≡◌, ◌+◌, ◌++◌, length}
use Rattle.std.specs.List.{concat}
use Rattle.pc_heap.proofs.Fronts.{stripped}
use Rattle.pc_heap.proofs.pieces.strip.Given as goal

abbrev pub invariant-wanted : goal.invariant-wanted
invariant-wanted l = record { so_far : stripped l.bytes (l.from.piece.now ++ concat l.from.behind.now) ≡ stripped l.wanted (l.rest.piece.now ++ concat l.rest.behind.now) }

abbrev pub decreases-wanted : goal.decreases-wanted
decreases-wanted l = length l.rest.behind.now + length l.wanted
