use Rattle.std.proofs.Common.{ap, sym, ◌∙◌}
use Rattle.std.specs.Prelude.{Option, Some}
use Rattle.pc_core.specs.{declared.kinds.Operation.Operation, declared.nodes.Node.Node}
use Rattle.pc_semantics.specs.{Ahead.by_move, Configurations.given, Evaluation.{applied, apply_task}, Parts.at_node}
use Rattle.pc_semantics.specs.declared.outcome.Lack.TheVariants as lack
use Rattle.pc_tasks.specs.Inside.{relieved}
use Rattle.pc_tasks.proofs.ahead.apply.Goals as goal

pub returns-in-Some-Same : goal.returns-in-Some-Same
returns-in-Some-Same c =
    let f = relieved c.args.frame.now in
    c.apply_same.ensures _
    ∙ ap (λ (o : Option Operation). by_move (given lack.Value o (applied f))) (sym (ap Some c.in-Some-Same.field-0-is) ∙ c.in-Some-Same.ensures)
    ∙ ap (λ (o : Option Node). by_move (at_node o (λ x. apply_task f x.kind))) c.in-Some.ensures
