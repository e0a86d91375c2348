use Rattle.std.proofs.{Common.{List, ℕ, subst}, lemmas.Result.IfOk-weaker}
use Rattle.pc_choose.specs.Lists.{Chosen}
use Rattle.pc_core.specs.CoreData.{CoreData}
use Rattle.pc_sched_lines.specs.Lines.{IsLine}
use Rattle.pc_commands.proofs.schedule.write_chosen.Goals as goal

pub line_of-requires : goal.line_of-requires
line_of-requires c = rw c.as_slice.ensures (c.lists_are_short.ensures c.in_ok-machine.machine.core c.args.seed c.in_ok-list.list c.in_ok-list.ensures.chosen)

pub returns : goal.returns
returns c =
    let list = c.in_ok-list.list in
    let chosen = subst (λ (x : CoreData). Chosen x c.args.seed list) c.in_ok-machine.ensures.core c.in_ok-list.ensures.chosen in
    IfOk-weaker c.line_of.result _ _ (λ text line. (list, chosen, subst (λ (l : List ℕ). IsLine l text) c.as_slice.ensures line)) c.line_of.ensures
