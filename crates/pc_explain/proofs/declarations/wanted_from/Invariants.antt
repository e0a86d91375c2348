use Rattle.std.proofs.Common.{◌≡◌, drop}
use Rattle.pc_explain.specs.Declarations.{wanted_from}
use Rattle.pc_explain.proofs.declarations.wanted_from.Given as goal

abbrev pub invariant-loop-entity : goal.invariant-loop-entity
invariant-loop-entity l = wanted_from l.core l.given (drop l.entity-index l.entities) ≡ wanted_from l.core l.given l.entities
