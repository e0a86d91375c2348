use Rattle.std.proofs.Common.{◌≡◌, ◌++◌, drop}
use Rattle.pc_print.specs.Parts as parts
use Rattle.pc_tree.specs.View.{items_view}
use Rattle.pc_print.proofs.member.push_lines.Given as goal

abbrev pub invariant-loop-item : goal.invariant-loop-item
invariant-loop-item l =
    l.out.items ++ parts.printed_lines (items_view (drop l.item-index l.items)) ≡ l.initial.out.items ++ parts.printed_lines (items_view l.items)
