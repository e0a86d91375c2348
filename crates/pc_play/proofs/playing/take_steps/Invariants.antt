use Rattle.std.proofs.Common.{◌≡◌}
use Rattle.pc_choose.specs.Choosers.{IsAt, IsKnown}
use Rattle.pc_play.proofs.UnderPlay.{UnderPlay}
use Rattle.pc_play.proofs.playing.take_steps.Given as goal

abbrev pub invariant-steps : goal.invariant-steps
invariant-steps l = record {
  under : UnderPlay l.fn.machine.core l.fn.chooser.seed l.step l.chooser.point l.machine.configuration;
  at : IsAt l.chooser l.machine.configuration;
  ahead : IsKnown l.machine.core l.machine.configuration l.chooser.point.actor l.ahead;
  seed : l.chooser.seed ≡ l.fn.chooser.seed;
  core : l.machine.core ≡ l.fn.machine.core;
}
