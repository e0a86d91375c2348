use Rattle.pc_machine.proofs.Popped.{popped_is}
use Rattle.pc_machine.proofs.arguments.arguments_on.Goals as goal

pub returns-clause-values : goal.returns-clause-values
returns-clause-values c = popped_is c.topmost.result c.args.count c.args.stack.now c.topmost.ensures.enough c.topmost.ensures.values
