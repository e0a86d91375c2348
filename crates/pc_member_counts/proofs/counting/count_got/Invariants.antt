use Rattle.std.proofs.Common.{◌≡◌, ◌*◌, map, take}
use Rattle.pc_tree.specs.View.{file_view}
use Rattle.pc_member_counts.specs.Totals.{got}
use Rattle.pc_member_counts.proofs.counting.count_got.Given as goal

abbrev pub invariant-loop-window : goal.invariant-loop-window
invariant-loop-window l =
    l.counts ≡ map (got (file_view l.file).entities (take (l.window * 64) l.plan.names)) (file_view l.file).entities
