use Rattle.std.proofs.Common.{sym, subst}
use Rattle.pc_run.specs.Ends.{NeverLacks}
use Rattle.pc_play.proofs.playing.play_through.Goals as goal

pub take_steps-requires-clause-never_lacks : goal.take_steps-requires-clause-never_lacks
take_steps-requires-clause-never_lacks c = subst NeverLacks (sym c.in_ok-machine.ensures.core) c.requires.never_lacks
