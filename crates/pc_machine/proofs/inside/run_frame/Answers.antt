use Rattle.pc_machine.specs.States.{configuration_of}
use Rattle.pc_machine.proofs.Stepped.{ran_steps}
use Rattle.pc_machine.proofs.inside.run_frame.Goals as goal

pub returns-clause-ok : goal.returns-clause-ok
returns-clause-ok c =
    ran_steps c.args.core.now (configuration_of c.args.state.now) c.args.actor c.run_frame.new.heap.objects c.run_frame.new.self c.run_frame.result c.requires c.run_frame.ensures.ok
