use Rattle.std.proofs.Common.{◌≡◌, ◌≤◌, map, drop}
use Rattle.pc_tree.specs.View.{entity_view}
use Rattle.pc_names.specs.Parts.{faults_by_count}
use Rattle.pc_base.specs.Limits.{method_limit}
use Rattle.pc_names.proofs.counts.add_counts.Given as goal

abbrev pub invariant-loop-at : goal.invariant-loop-at
invariant-loop-at l =
    (faults_by_count 0 (map entity_view l.all) l.counts ≡ faults_by_count l.total (map entity_view (drop l.at l.all)) (drop l.at l.counts)) × (l.total ≤ method_limit)
