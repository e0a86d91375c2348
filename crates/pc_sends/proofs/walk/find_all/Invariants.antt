use Rattle.pc_sends.specs.Growth.{Grown, TurnsBelow}
use Rattle.pc_sends.proofs.{Grows.At, Walking.CalledIn}
use Rattle.pc_sends.proofs.walk.find_all.Given as goal

abbrev pub invariant-loop-entity : goal.invariant-loop-entity
invariant-loop-entity l = Grown (TurnsBelow (At (CalledIn l.core l.name) l.entities) 0 l.entity-index) l.fn.found l.found
