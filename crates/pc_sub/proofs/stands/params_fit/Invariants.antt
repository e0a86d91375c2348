use Rattle.std.proofs.Common.{◌≡◌, drop}
use Rattle.pc_sub.specs.DeclarationFaults as spec
use Rattle.pc_sub.proofs.stands.params_fit.Given as goal

abbrev pub invariant-loop-param : goal.invariant-loop-param
invariant-loop-param l = spec.params_fit l.core (drop l.param-index l.wanted) l.left ≡ spec.params_fit l.core l.wanted l.given
