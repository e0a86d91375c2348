use Rattle.std.proofs.Common.{◌≡◌, ◌++◌, drop, map}
use Rattle.pc_file_spec.specs.Cores.{param_of}
use Rattle.pc_elab.proofs.signature.list_params.Given as goal

abbrev pub invariant-loop-param : goal.invariant-loop-param
invariant-loop-param l = map (param_of l.context.entities) l.params ≡ l.list ++ map (param_of l.context.entities) (drop l.param-index l.params)
