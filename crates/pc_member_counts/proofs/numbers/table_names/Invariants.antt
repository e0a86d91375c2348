use Rattle.std.proofs.Common.{◌≡◌, [], map, drop}
use Rattle.pc_tree.specs.View.{entity_view}
use Rattle.pc_member_counts.specs.Numbers.{method_names}
use Rattle.pc_member_counts.proofs.numbers.table_names.Given as goal

abbrev pub invariant-loop-entity : goal.invariant-loop-entity
invariant-loop-entity l =
    method_names [] (map entity_view l.all) ≡ method_names l.names (map entity_view (drop l.entity-index l.all))
