use Rattle.std.proofs.Common.{◌≡◌, drop, map}
use Rattle.pc_tree.specs.View.{field_view}
use Rattle.pc_body_spec.specs.Faults as spec
use Rattle.pc_body_walks.proofs.faults.check_added.Given as goal

abbrev pub invariant-loop-field : goal.invariant-loop-field
invariant-loop-field l = spec.initial_faults l.context (map field_view l.fields) ≡ spec.initial_faults l.context (map field_view (drop l.field-index l.fields))
