use Rattle.std.proofs.Common.{◌≡◌, map, drop}
use Rattle.pc_tree.specs.View.{method_view}
use Rattle.pc_member_counts.specs.{Blocks.nothing, Windows.own_block}
use Rattle.pc_member_counts.proofs.window.own_block.Given as goal

abbrev pub invariant-loop-at : goal.invariant-loop-at
invariant-loop-at l =
    own_block l.start nothing l.numbers (map method_view l.methods) ≡ own_block l.start l.block (drop l.at l.numbers) (map method_view (drop l.at l.methods))
