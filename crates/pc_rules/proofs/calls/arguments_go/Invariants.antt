use Rattle.std.proofs.Common.{◌≡◌, drop, take}
use Rattle.pc_rules.specs.Calls as spec
use Rattle.pc_rules.proofs.calls.arguments_go.Given as goal

abbrev pub invariant-loop-index : goal.invariant-loop-index
invariant-loop-index l = spec.arguments_go l.core (drop l.index (take l.count l.children)) (drop l.index l.params) ≡ spec.arguments_go l.core (take l.count l.children) l.params
