use Rattle.std.proofs.Common.{◌≡◌, ◌+◌, drop}
use Rattle.std.specs.Prelude.{slice_get}
use Rattle.pc_sub.specs.DeclarationFaults as spec
use Rattle.pc_sub.proofs.conforming.trait_fault.Given as goal

abbrev pub invariant-loop-wanted : goal.invariant-loop-wanted
invariant-loop-wanted l = record { rest : slice_get (spec.trait_faults l.core l.entity l.number (drop l.wanted-index l.methods)) 0 ≡ slice_get (spec.trait_faults l.core l.entity l.first l.methods) 0; at : l.number ≡ l.first + l.wanted-index }
