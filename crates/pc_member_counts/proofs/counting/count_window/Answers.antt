use Rattle.std.proofs.{Common.{◌≡◌, ◌∙◌, sym, ap, subst, length, map}, lemmas.List.length-map}
use Rattle.std.specs.Prelude.{IfOk, replicate}
use Rattle.pc_tree.specs.View.{entity_view, file_view}
use Rattle.pc_member_counts.specs.{Blocks.nothing, Fresh.with_fresh, Windows.filled}
use Rattle.pc_member_counts.proofs.Planned.{window_is, counts_few}
use Rattle.pc_member_counts.proofs.counting.count_window.Goals as goal

pub add_fresh-requires-clause-few : goal.add_fresh-requires-clause-few
add_fresh-requires-clause-few c = counts_few (file_view c.args.file.now).entities c.args.plan.now.names c.args.start c.len.result c.args.counts.now c.requires.counts c.len.ensures c.len.type_inv

pub returns : goal.returns
returns c =
    let file = file_view c.args.file.now in
    let all = c.as_slice-all.result.now in
    let ls = c.as_slice-listings.result.now in
    subst (λ xs. IfOk c.add_fresh.result (λ l. l ≡ xs))
    (ap (λ es. with_fresh c.args.start c.min-count.result c.as_slice-2.result.now 0 (map entity_view es) ls c.args.counts.now) c.as_slice-all.ensures
    ∙ window_is file c.args.plan.now c.requires.plans c.args.start c.len.result c.min-count.result (length all) ls c.as_slice.result.now c.as_slice-2.result.now c.in_ok-table.table c.args.counts.now
    c.as_slice-listings.ensures c.as_slice.ensures (ap length c.as_slice-all.ensures ∙ sym (length-map c.args.file.now.entities entity_view)) c.len.ensures c.min-count.ensures c.as_slice-2.ensures
    (c.in_ok-table.ensures ∙ ap (λ es. filled c.args.start (map entity_view es) ls c.as_slice.result.now (replicate (length all) nothing)) c.as_slice-all.ensures) c.requires.counts)
    c.add_fresh.ensures
