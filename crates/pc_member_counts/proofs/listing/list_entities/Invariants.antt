use Rattle.std.proofs.Common.{◌≡◌, ◌++◌, map, drop}
use Rattle.pc_tree.specs.View.{entity_view}
use Rattle.pc_member_counts.specs.Numbers.{listing}
use Rattle.pc_member_counts.proofs.listing.list_entities.Given as goal

abbrev pub invariant-loop-entity : goal.invariant-loop-entity
invariant-loop-entity l =
    map (listing l.entities l.names) (map entity_view l.all) ≡ l.listings ++ map (listing l.entities l.names) (map entity_view (drop l.entity-index l.all))
