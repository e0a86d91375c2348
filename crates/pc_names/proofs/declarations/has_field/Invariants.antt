use Rattle.std.proofs.Common.{◌≡◌, map, drop}
use Rattle.pc_tree.specs.View.{field_view}
use Rattle.pc_members.specs.{MemberLists.is_among, Members.field_texts}
use Rattle.pc_names.proofs.declarations.has_field.Given as goal

abbrev pub invariant-loop-field : goal.invariant-loop-field
invariant-loop-field l =
    is_among l.name (field_texts (map field_view l.fields)) ≡ is_among l.name (field_texts (map field_view (drop l.field-index l.fields)))
