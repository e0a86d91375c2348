use Rattle.std.proofs.Common.{refl}
use Rattle.pc_run.proofs.Stepping.{begins}
use Rattle.pc_run.proofs.turns.take_turns.Goals as goal

pub loop-at-init : goal.loop-at-init
loop-at-init c = (refl, begins c.args.machine.now.core c.args.turns.now c.args.machine.now.configuration c.requires.started c.requires.few)
