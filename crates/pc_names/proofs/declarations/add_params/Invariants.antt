use Rattle.std.proofs.Common.{◌≡◌, drop}
use Rattle.pc_names.specs.Faults as spec
use Rattle.pc_names.proofs.declarations.add_params.Given as goal

abbrev pub invariant-loop-param : goal.invariant-loop-param
invariant-loop-param l =
    spec.param_faults l.entities l.fields l.fn.known l.params ≡ spec.param_faults l.entities l.fields l.known (drop l.param-index l.params)
