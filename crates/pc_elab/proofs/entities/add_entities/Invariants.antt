use Rattle.std.proofs.Common.{◌≡◌, ◌++◌, ◌+◌, drop, map}
use Rattle.pc_tree.specs.{View.entity_view, Kinds.first_own}
use Rattle.pc_file_spec.specs.Cores.{built_ins}
use Rattle.pc_elab.specs.Rows.{entity_rows}
use Rattle.pc_members.specs.Views.{table_view}
use Rattle.pc_elab.proofs.entities.add_entities.Given as goal

abbrev pub invariant-loop-at : goal.invariant-loop-at
invariant-loop-at l =
    built_ins ++ entity_rows l.context l.names first_own 1 (map entity_view l.entities) (table_view l.table)
    ≡ l.list ++ entity_rows l.context l.names (first_own + l.at) l.first (map entity_view (drop l.at l.entities)) (table_view (drop l.at l.table))
