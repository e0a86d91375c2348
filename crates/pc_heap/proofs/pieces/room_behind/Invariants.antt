use Rattle.std.proofs.Common.{◌≡◌, ◌+◌, length}
use Rattle.std.specs.List.{concat}
use Rattle.pc_heap.proofs.pieces.room_behind.Given as goal

abbrev pub invariant-rest : goal.invariant-rest
invariant-rest l = record { taken : l.left + length (concat l.initial.pieces) ≡ l.room + length (concat l.rest) }

abbrev pub decreases-rest : goal.decreases-rest
decreases-rest l = length l.rest
