use Rattle.std.proofs.Common.{ℕ}
use Rattle.pc_core.specs.Further.{IsAbstract}
use Rattle.pc_sub.proofs.Looked.{HasTo}
use Rattle.pc_sub.proofs.tables.any_abstract.Given as goal

abbrev pub invariant-loop-entity : goal.invariant-loop-entity
invariant-loop-entity l = (b : ℕ) → HasTo l.entities l.entity-index b → IsAbstract l.core b → ⊥
