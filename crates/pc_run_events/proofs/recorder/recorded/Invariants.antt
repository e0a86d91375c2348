use Rattle.std.proofs.Common.{◌≡◌}
use Rattle.pc_run_events.specs.Kept.{Under}
use Rattle.pc_run_events.proofs.recorder.recorded.Given as goal

abbrev pub invariant-loop-at : goal.invariant-loop-at
invariant-loop-at l = record { under : Under l.core l.list l.at l.machine.configuration l.seats l.posts l.events; core : l.machine.core ≡ l.core }
