use Rattle.std.proofs.Common.{sym}
use Rattle.pc_trace.proofs.Clashing.{none_counted}
use Rattle.pc_trace.proofs.clash.count.Goals as goal

pub returns-in-None : goal.returns-in-None
returns-in-None c = sym (none_counted c.args.clock.now c.args.actor (sym c.in-None.ensures.found))
