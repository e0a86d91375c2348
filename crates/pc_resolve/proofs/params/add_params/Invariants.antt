use Rattle.std.proofs.Common.{◌≡◌, ◌++◌, drop}
use Rattle.pc_body_spec.specs.Bodies as spec
use Rattle.pc_resolve.proofs.params.add_params.Given as goal

abbrev pub invariant-loop-param : goal.invariant-loop-param
invariant-loop-param l = l.fn.scope ++ spec.params_scope l.params ≡ l.scope ++ spec.params_from l.slot (drop l.param-index l.params)
