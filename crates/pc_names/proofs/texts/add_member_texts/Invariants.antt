use Rattle.std.proofs.Common.{◌≡◌, map, drop}
use Rattle.pc_tree.specs.View.{entity_view}
use Rattle.pc_names.specs.Faults.{with_members}
use Rattle.pc_names.proofs.texts.add_member_texts.Given as goal

abbrev pub invariant-loop-entity : goal.invariant-loop-entity
invariant-loop-entity l =
    with_members l.fn.table (map entity_view l.entities) ≡ with_members l.table (map entity_view (drop l.entity-index l.entities))
