use Rattle.std.proofs.Common.{◌≡◌, drop}
use Rattle.std.specs.Prelude.{slice_get}
use Rattle.pc_sub.specs.DeclarationFaults as spec
use Rattle.pc_sub.proofs.traits.entity_fault.Given as goal

abbrev pub invariant-loop-entity : goal.invariant-loop-entity
invariant-loop-entity l = record { rest : slice_get (spec.core_entity_faults l.core l.number (drop l.entity-index l.core.entities)) 0 ≡ slice_get (spec.core_entity_faults l.core 0 l.core.entities) 0; at : l.number ≡ l.entity-index }
