use Rattle.pc_machine.proofs.Stepped.{ran_at, runs_there}
use Rattle.pc_machine.proofs.inside.run_in.Goals as goal

pub returns-clause-ok : goal.returns-clause-ok
returns-clause-ok c =
    let all = c.args.all.now.items in
    ran_at c.args.core.now c.args.heap.now.objects c.run_top.new.heap.objects all c.args.actor c.index_mut-running.result.now c.run_top.new.frames c.run_top.result
    (runs_there all c.args.actor c.requires) c.index_mut-running.ensures.value c.run_top.ensures.ok
