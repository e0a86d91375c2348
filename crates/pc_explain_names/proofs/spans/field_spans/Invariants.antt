use Rattle.std.proofs.Common.{◌≡◌, ◌++◌, drop, map}
use Rattle.pc_explain_names.specs.Lists.{field_span}
use Rattle.pc_tree.specs.View.{field_view}
use Rattle.pc_explain_names.proofs.spans.field_spans.Given as goal

abbrev pub invariant-loop-field : goal.invariant-loop-field
invariant-loop-field l = l.spans.items ++ map field_span (map field_view (drop l.field-index l.fields)) ≡ map field_span (map field_view l.fields)
