use Rattle.std.proofs.{Common.{◌≡◌, ◌∙◌, sym, ap, subst, length, map}, lemmas.List.length-map}
use Rattle.std.specs.Prelude.{IfOk}
use Rattle.pc_tree.specs.View.{entity_view, file_view}
use Rattle.pc_members.specs.{Rounds.completed_from, Numbered.numbered_table, Views.table_view}
use Rattle.pc_members.proofs.Completed.{all_completed}
use Rattle.pc_members.proofs.inherited.list_members.Goals as goal

pub returns : goal.returns
returns c =
    let file = file_view c.args.file.now in
    subst (λ xs. IfOk c.complete_all.result (λ l. table_view l ≡ xs))
    (ap (λ t. completed_from c.args.entities.now (numbered_table t) 0 (map entity_view c.as_slice-2.result.now)) c.as_slice.ensures
    ∙ ap (λ es. completed_from c.args.entities.now (numbered_table c.in_ok-table.table) 0 (map entity_view es)) c.as_slice-2.ensures
    ∙ all_completed file c.args.entities.now c.own_part-own.result.now (length c.args.file.now.entities) (numbered_table c.in_ok-table.table) c.requires.names (c.args.above.now, c.requires.closes, c.own_part-own.ensures) c.requires.founded (sym (length-map c.args.file.now.entities entity_view)) c.in_ok-table.ensures)
    c.complete_all.ensures
