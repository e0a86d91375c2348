use Rattle.std.proofs.Common.{◌≡◌, ◌++◌, drop}
use Rattle.pc_explain_parts.specs.Parts.{part_lines, parts_from}
use Rattle.pc_explain_parts.proofs.parts.push_part_lines.Given as goal

abbrev pub invariant-loop-child : goal.invariant-loop-child
invariant-loop-child l =
    (l.index ≡ l.child-index)
    × (l.out.items ++ parts_from l.scene l.node l.incomplete l.index (drop l.child-index l.node.children) ≡ l.initial.out.items ++ part_lines l.scene l.node l.incomplete)
