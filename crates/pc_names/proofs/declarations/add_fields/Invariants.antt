use Rattle.std.proofs.Common.{◌≡◌, ◌++◌, map, drop}
use Rattle.pc_tree.specs.View.{field_view}
use Rattle.pc_members.specs.Members.{field_texts}
use Rattle.pc_names.specs.Faults as spec
use Rattle.pc_names.proofs.declarations.add_fields.Given as goal

abbrev pub invariant-loop-field : goal.invariant-loop-field
invariant-loop-field l =
    (spec.field_faults l.entities l.fn.known (map field_view l.fields) ≡ spec.field_faults l.entities l.known (map field_view (drop l.field-index l.fields)))
    × (l.fn.known ++ field_texts (map field_view l.fields) ≡ l.known ++ field_texts (map field_view (drop l.field-index l.fields)))
