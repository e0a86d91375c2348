use Rattle.std.proofs.Common.{◌≡◌, ◌++◌, drop, map}
use Rattle.pc_print.specs.Parts as parts
use Rattle.pc_tree.specs.View.{field_view}
use Rattle.pc_print.proofs.member.push_fields.Given as goal

abbrev pub invariant-loop-field : goal.invariant-loop-field
invariant-loop-field l = l.out.items ++ parts.printed_fields (map field_view (drop l.field-index l.fields)) ≡ l.initial.out.items ++ parts.printed_fields (map field_view l.fields)
