use Rattle.std.proofs.Common.{◌≡◌, map, drop}
use Rattle.pc_tree.specs.View.{entity_view}
use Rattle.pc_members.specs.MemberLists.{with_traits}
use Rattle.pc_names.proofs.entities.add_traits.Given as goal

abbrev pub invariant-loop-entity : goal.invariant-loop-entity
invariant-loop-entity l =
    with_traits l.fn.table (map entity_view l.entities) ≡ with_traits l.table (map entity_view (drop l.entity-index l.entities))
