use Rattle.std.proofs.Common.{◌≡◌, ◌++◌, map, drop}
use Rattle.pc_tree.specs.View.{entity_view}
use Rattle.pc_member_counts.specs.Fresh.{with_fresh}
use Rattle.pc_member_counts.proofs.fresh.add_fresh.Given as goal

abbrev pub invariant-loop-place : goal.invariant-loop-place
invariant-loop-place l =
    with_fresh l.start l.count l.table 0 (map entity_view l.all) l.listings l.counts ≡ l.sums ++ with_fresh l.start l.count l.table l.place (map entity_view (drop l.place l.all)) (drop l.place l.listings) (drop l.place l.counts)
