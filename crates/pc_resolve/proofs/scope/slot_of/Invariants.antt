use Rattle.std.proofs.Common.{◌≡◌, drop}
use Rattle.pc_body_spec.specs.Bodies as spec
use Rattle.pc_resolve.proofs.scope.slot_of.Given as goal

abbrev pub invariant-loop-visible : goal.invariant-loop-visible
invariant-loop-visible l = spec.slot_named (drop l.visible-index l.scope) l.name ≡ spec.slot_named l.scope l.name
