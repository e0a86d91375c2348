use Rattle.std.proofs.Common.{◌≡◌, map, drop}
use Rattle.pc_tree.specs.View.{field_view}
use Rattle.pc_members.specs.{Members.field_texts, MemberLists.with_names}
use Rattle.pc_members.proofs.texts.add_fields.Given as goal

abbrev pub invariant-loop-field : goal.invariant-loop-field
invariant-loop-field l =
    with_names l.fn.table (field_texts (map field_view l.fields)) ≡ with_names l.table (field_texts (map field_view (drop l.field-index l.fields)))
