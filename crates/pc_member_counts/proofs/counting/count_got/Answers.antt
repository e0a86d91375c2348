use Rattle.std.proofs.{Common.{◌∙◌, ◌*◌, sym, ap}, lemmas.List.length-map}
use Rattle.std.specs.Prelude.{replicate}
use Rattle.pc_tree.specs.View.{entity_view, file_view}
use Rattle.pc_member_counts.proofs.{Totals.got_none, Planned.counts_few}
use Rattle.pc_member_counts.proofs.counting.count_got.Goals as goal

pub loop-window-init : goal.loop-window-init
loop-window-init c =
    let es = (file_view c.args.file.now).entities in
    c.in_ok-counts.ensures ∙ ap (λ n. replicate n 0) (c.len.ensures ∙ sym (length-map c.args.file.now.entities entity_view)) ∙ sym (got_none es es)

pub returns-clause-few : goal.returns-clause-few
returns-clause-few c = counts_few (file_view c.args.file.now).entities c.args.plan.now.names (c.loop-window.window * 64) c.len-2.result c.loop-window.counts c.loop-window.invariant c.len-2.ensures c.len-2.type_inv
