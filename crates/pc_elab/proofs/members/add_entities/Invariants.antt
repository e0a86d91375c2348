use Rattle.std.proofs.Common.{◌≡◌, ◌+◌, drop, map}
use Rattle.pc_tree.specs.{View.entity_view, Kinds.first_own}
use Rattle.pc_elab.specs.{Outcomes.row_members, Views.parts_view}
use Rattle.pc_members.specs.Views.{table_view}
use Rattle.pc_elab.proofs.members.add_entities.Given as goal

abbrev pub invariant-loop-at : goal.invariant-loop-at
invariant-loop-at l =
    (row_members l.fn.context (parts_view l.fn.parts) first_own (map entity_view l.entities) (table_view l.table) ≡ row_members l.fn.context (parts_view l.parts) (first_own + l.at) (map entity_view (drop l.at l.entities)) (table_view (drop l.at l.table)))
    × (l.context.entities ≡ l.fn.context.entities)
    × (l.context.texts ≡ l.fn.context.texts)
