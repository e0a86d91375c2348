use Rattle.std.proofs.Common.{◌≡◌, ◌++◌, map, drop}
use Rattle.pc_tree.specs.View.{entity_view}
use Rattle.pc_members.specs.{Rounds.completed_from, Numbered.numbered_table, Views.table_view}
use Rattle.pc_members.proofs.inherited.complete_all.Given as goal

abbrev pub invariant-loop-place : goal.invariant-loop-place
invariant-loop-place l =
    completed_from l.entities (numbered_table l.table) 0 (map entity_view l.all) ≡ table_view l.lists ++ completed_from l.entities (numbered_table l.table) l.place (map entity_view (drop l.place l.all))
