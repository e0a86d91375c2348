use Rattle.std.proofs.Common.{◌≡◌, ◌++◌, drop, map}
use Rattle.pc_tree.specs.View.{field_view}
use Rattle.pc_members.specs.Members.{field_texts}
use Rattle.pc_elab.proofs.members.list_field_names.Given as goal

abbrev pub invariant-loop-field : goal.invariant-loop-field
invariant-loop-field l = field_texts (map field_view l.fields) ≡ l.names ++ field_texts (map field_view (drop l.field-index l.fields))
