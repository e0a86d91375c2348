use Rattle.std.proofs.Common.{◌≡◌, ◌++◌, drop, map}
use Rattle.pc_explain_names.specs.Homes.{all_field_marks}
use Rattle.pc_tree.specs.View.{field_view}
use Rattle.pc_explain_names.proofs.homes.push_fields.Given as goal

abbrev pub invariant-loop-field : goal.invariant-loop-field
invariant-loop-field l = l.out.items ++ all_field_marks l.at (map field_view (drop l.field-index l.fields)) ≡ l.initial.out.items ++ all_field_marks l.at (map field_view l.fields)
