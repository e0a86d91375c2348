use Rattle.std.proofs.Common.{◌≡◌, ◌++◌, ◌∙◌, Some, drop, ap}
use Rattle.std.specs.Prelude.{slice_get}
use Rattle.pc_semantics.specs.{Evaluation.item_tasks, Pending.all_tasks}
use Rattle.pc_semantics.proofs.Pending.{items_from}
use Rattle.pc_semantics.proofs.tasks.Tasks.go_on_with_items.Goals as goal

pub returns-clause-ok : goal.returns-clause-ok
returns-clause-ok c =
    let cs = c.args.children.now in
    let first : Some c.in-Some.first.now ≡ slice_get cs 0 = c.in-Some.ensures.value ∙ ap (λ z. slice_get z 0) c.as_slice.ensures in
    c.in_ok-replace_first.ensures.ok
    ∙ ap (λ z. z ++ drop 1 (all_tasks c.self.inside.entries)) (items_from cs c.in_ok-share.field-0 c.in-Some.first.now first c.in_ok-share.ensures)
    ∙ ap (λ z. item_tasks cs ++ drop 1 z) c.self.view_is
