use Rattle.std.proofs.Common.{◌≡◌, ◌++◌, map, drop}
use Rattle.pc_tree.specs.View.{field_view}
use Rattle.pc_members.specs.Members.{field_texts}
use Rattle.pc_member_counts.specs.Numbers.{numbers_in}
use Rattle.pc_member_counts.proofs.numbers.number_fields.Given as goal

abbrev pub invariant-loop-field : goal.invariant-loop-field
invariant-loop-field l =
    numbers_in l.names (field_texts (map field_view l.fields)) ≡ l.numbers ++ numbers_in l.names (field_texts (map field_view (drop l.field-index l.fields)))
