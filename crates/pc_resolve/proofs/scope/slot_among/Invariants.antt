use Rattle.std.proofs.Common.{◌≡◌, drop, map}
use Rattle.pc_body_spec.specs.Bodies as spec
use Rattle.pc_resolve.proofs.scope.slot_among.Given as goal

abbrev pub invariant-loop-entered : goal.invariant-loop-entered
invariant-loop-entered l = spec.slot_named (map (λ e. e.visible) (drop l.entered-index l.row)) l.name ≡ spec.slot_named (map (λ e. e.visible) l.row) l.name
