use Rattle.std.proofs.Common.{◌≡◌, ◌++◌, replicate}
use Rattle.pc_sched_lines.proofs.spreading.push_steps.Given as goal

abbrev pub invariant-loop-step : goal.invariant-loop-step
invariant-loop-step l = l.list ≡ l.initial.list ++ replicate l._step l.turn.actor
