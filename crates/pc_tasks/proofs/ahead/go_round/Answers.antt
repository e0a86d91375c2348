use Rattle.std.proofs.Common.{ap, ◌∙◌, List, ℕ}
use Rattle.std.specs.Prelude.{Option}
use Rattle.pc_core.specs.declared.nodes.Node.{Node}
use Rattle.pc_semantics.specs.{Parts.{loop_task, at_node}, Ahead.by_move}
use Rattle.pc_tasks.specs.Inside.{relieved}
use Rattle.pc_tasks.proofs.ahead.go_round.Goals as goal

pub returns-in-Some : goal.returns-in-Some
returns-in-Some c =
    let f = relieved c.args.frame.now in
    c.turn.ensures c.args.number ∙ ap (λ (cs : List ℕ). by_move (loop_task f c.args.number cs)) c.as_slice.ensures
    ∙ ap (λ (o : Option Node). by_move (at_node o (λ x. loop_task f c.args.number x.children))) c.in-Some.ensures
