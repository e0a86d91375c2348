use Rattle.std.proofs.Common.{◌≡◌, ◌∙◌, ap, subst, map}
use Rattle.std.specs.Prelude.{IfOk}
use Rattle.pc_tree.specs.View.{entity_view, file_view}
use Rattle.pc_member_counts.specs.Totals.{got, totals}
use Rattle.pc_member_counts.proofs.Totals.{all_counted}
use Rattle.pc_member_counts.proofs.counting.count_members.Goals as goal

pub returns : goal.returns
returns c =
    let es = (file_view c.args.file.now).entities in
    subst (λ xs. IfOk c.add_own.result (λ l. l ≡ xs))
    (ap (λ all. totals (map entity_view all) c.as_slice-2.result.now) c.as_slice.ensures
    ∙ ap (totals es) (c.as_slice-2.ensures ∙ c.in_ok-counts.ensures.got ∙ ap (λ p. map (got es p.names) es) c.in_ok-plan.ensures)
    ∙ all_counted es)
    c.add_own.ensures
