use Rattle.std.proofs.Common.{◌≡◌, ◌++◌, map, drop}
use Rattle.pc_tree.specs.View.{entity_view}
use Rattle.pc_member_counts.specs.Totals.{totals}
use Rattle.pc_member_counts.proofs.counting.add_own.Given as goal

abbrev pub invariant-loop-place : goal.invariant-loop-place
invariant-loop-place l =
    totals (map entity_view l.all) l.counts ≡ l.sums ++ totals (map entity_view (drop l.place l.all)) (drop l.place l.counts)
