use Rattle.std.proofs.Common.{ap, sym, set, take, drop, ◌++◌, ◌∙◌}
use Rattle.std.specs.Prelude.{slice_get}
use Rattle.pc_semantics.specs.Pending.{all_tasks}
use Rattle.pc_semantics.proofs.Pending.{second_goes_on, second_ends}
use Rattle.pc_semantics.proofs.tasks.replace_first.Goals as goal

pub returns-in-Some-clause-ok : goal.returns-in-Some-clause-ok
returns-in-Some-clause-ok c =
    let put = c.in_ok-push.ensures.ok in
    ap all_tasks (c.replace.ensures.new ∙ ap (λ z. set z 1 c.in-Some.next) (c.replace-after.ensures.new ∙ ap (λ z. set z 1 c.alone.result) put))
    ∙ second_goes_on c.args.entries.now c.args.entry c.alone.result c.in-Some.next c.replace-after.result (ap (λ z. slice_get z 1) (sym put) ∙ c.replace-after.ensures.old) c.in-Some.ensures

pub returns-in-None-clause-ok : goal.returns-in-None-clause-ok
returns-in-None-clause-ok c =
    let put = c.in_ok-push.ensures.ok in
    ap all_tasks (c.drop_second.ensures ∙ ap (λ z. take 1 z ++ drop 2 z) (c.replace-after.ensures.new ∙ ap (λ z. set z 1 c.alone.result) put))
    ∙ second_ends c.args.entries.now c.args.entry c.alone.result c.replace-after.result (ap (λ z. slice_get z 1) (sym put) ∙ c.replace-after.ensures.old) c.in-None.ensures
