use Rattle.std.proofs.Common.{◌≡◌, drop, map}
use Rattle.pc_tree.specs.View.{field_view}
use Rattle.pc_body_walks.specs.Gathering as spec
use Rattle.pc_body_walks.proofs.dot_texts.values.Given as goal

abbrev pub invariant-loop-field : goal.invariant-loop-field
invariant-loop-field l = spec.with_values l.fn.table (map field_view l.fields) ≡ spec.with_values l.table (map field_view (drop l.field-index l.fields))
