use Rattle.std.proofs.Common.{◌≡◌, ◌+◌, ◌-◌, ◌++◌, drop, replicate}
use Rattle.pc_run.specs.{Spreading.spread, Underway.Underway}
use Rattle.pc_run.proofs.turns.take_turn.Given as goal

abbrev pub invariant-loop-step : goal.invariant-loop-step
invariant-loop-step l =
    (l.machine.core ≡ l.initial.machine.core)
    × Underway l.initial.machine.core (spread l.turns) l.machine.configuration l.counts (replicate (l.turn.times - l._step) l.turn.actor ++ spread (drop (l.at + 1) l.turns))
