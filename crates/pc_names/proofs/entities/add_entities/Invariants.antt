use Rattle.std.proofs.Common.{◌≡◌, ◌++◌, ◌≤◌, map, length, drop}
use Rattle.pc_tree.specs.View.{entity_view}
use Rattle.pc_names.specs.{Faults.entity_name_faults, Parts.known_limit}
use Rattle.pc_members.specs.Members.{texts_of}
use Rattle.pc_names.proofs.entities.add_entities.Given as goal

abbrev pub invariant-loop-entity : goal.invariant-loop-entity
invariant-loop-entity l =
    (entity_name_faults l.fn.table (map entity_view l.entities) ≡ entity_name_faults l.table (map entity_view (drop l.entity-index l.entities)))
    × (l.fn.table ++ texts_of (map entity_view l.entities) ≡ l.table ++ texts_of (map entity_view (drop l.entity-index l.entities)))
    × (length l.table ≤ known_limit)
