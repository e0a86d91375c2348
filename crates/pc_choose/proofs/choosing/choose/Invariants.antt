use Rattle.std.proofs.Common.{◌≡◌}
use Rattle.pc_choose.specs.Choosers.{IsAt}
use Rattle.pc_choose.proofs.Underway.{Underway}
use Rattle.pc_choose.proofs.choosing.choose.Given as goal

abbrev pub invariant-steps : goal.invariant-steps
invariant-steps l = record {
  underway : Underway l.fn.machine.core l.seed l.step l.chooser.point l.machine.configuration l.list;
  at : IsAt l.chooser l.machine.configuration;
  seed : l.chooser.seed ≡ l.seed;
  core : l.machine.core ≡ l.fn.machine.core;
}
