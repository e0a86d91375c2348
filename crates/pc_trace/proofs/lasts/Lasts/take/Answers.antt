use Rattle.std.proofs.Common.{ap}
use Rattle.pc_trace.specs.Lasts.{row_in}
use Rattle.pc_trace.proofs.Spots.{spot_apart}
use Rattle.pc_trace.proofs.lasts.Lasts.take.Goals as goal

pub returns-clause-others : goal.returns-clause-others
returns-clause-others c other n = rw (← c.self.view_is) (ap row_in (c.remove.ensures.updates.2 other (spot_apart c.args.spot other n)))
