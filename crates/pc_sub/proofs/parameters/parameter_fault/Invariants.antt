use Rattle.std.proofs.Common.{◌≡◌, drop}
use Rattle.std.specs.Prelude.{slice_get}
use Rattle.pc_sub.specs.DeclarationFaults as spec
use Rattle.pc_sub.proofs.parameters.parameter_fault.Given as goal

abbrev pub invariant-loop-method : goal.invariant-loop-method
invariant-loop-method l = record { rest : slice_get (spec.parameter_faults l.number (drop l.method-index l.core.methods)) 0 ≡ slice_get (spec.parameter_faults 0 l.core.methods) 0; at : l.number ≡ l.method-index }
