use Rattle.std.proofs.Common.{ap, sym, ◌∙◌}
use Rattle.std.specs.Prelude.{slice_get}
use Rattle.pc_semantics.specs.Ahead.{by_move}
use Rattle.pc_tasks.specs.Inside.{amid, first_move}
use Rattle.pc_machine.specs.States.{configuration_of}
use Rattle.pc_machine.proofs.Foreseen.{task_foreseen}
use Rattle.pc_machine.proofs.ahead.ahead_of.Goals as goal

pub returns-in-Some-top : goal.returns-in-Some-top
returns-in-Some-top c =
    let core = c.args.core.now in
    let objects = c.args.state.now.heap.objects in
    let f = c.in-Some-top.frame.now in
    c.first_task.ensures c.args.actor
    ∙ ap (λ n. by_move (first_move core (amid objects c.args.actor n) f (slice_get f.tasks 0))) c.len.ensures
    ∙ task_foreseen core (configuration_of c.args.state.now) c.args.actor c.in-Some.found.now f (sym c.in-Some.ensures) (sym c.in-Some-top.ensures)
