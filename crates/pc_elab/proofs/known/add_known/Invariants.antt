use Rattle.std.proofs.Common.{◌≡◌, ◌++◌, drop, map}
use Rattle.pc_tree.specs.View.{entity_view}
use Rattle.pc_file_spec.specs.Cores.{built_in_known}
use Rattle.pc_elab.specs.Rows.{known_rows}
use Rattle.pc_members.specs.Views.{table_view}
use Rattle.pc_elab.proofs.known.add_known.Given as goal

abbrev pub invariant-loop-at : goal.invariant-loop-at
invariant-loop-at l =
    built_in_known ++ known_rows 1 (map entity_view l.entities) (table_view l.table) ≡ l.known ++ known_rows l.first (map entity_view (drop l.at l.entities)) (table_view (drop l.at l.table))
