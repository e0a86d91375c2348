use Rattle.std.proofs.Common.{◌≡◌, drop}
use Rattle.std.specs.Prelude.{slice_get}
use Rattle.pc_sub.specs.DeclarationFaults as spec
use Rattle.pc_sub.proofs.parameters.not_sendable.Given as goal

abbrev pub invariant-loop-param : goal.invariant-loop-param
invariant-loop-param l = record { rest : slice_get (spec.not_sendable l.method l.parameter (drop l.param-index l.params)) 0 ≡ slice_get (spec.not_sendable l.method 0 l.params) 0; at : l.parameter ≡ l.param-index }
