use Rattle.std.proofs.Common.{◌≡◌, ◌++◌, drop, map}
use Rattle.pc_core.specs.Entities.{param_slot}
use Rattle.pc_elab.proofs.slots.add_params.Given as goal

abbrev pub invariant-loop-param : goal.invariant-loop-param
invariant-loop-param l = l.fn.slots ++ map (param_slot l.method) l.params ≡ l.slots ++ map (param_slot l.method) (drop l.param-index l.params)
