use Rattle.std.proofs.Common.{◌≡◌, ◌++◌, drop, map}
use Rattle.pc_tree.specs.View.{field_view}
use Rattle.pc_body_spec.specs.Slots as spec
use Rattle.pc_body_walks.proofs.definitions.initial_values.Given as goal

abbrev pub invariant-loop-field : goal.invariant-loop-field
invariant-loop-field l = l.fn.locals ++ spec.initial_locals (map field_view l.fields) ≡ l.locals ++ spec.initial_locals (map field_view (drop l.field-index l.fields))
