use Rattle.std.proofs.Common.{◌≡◌, drop}
use Rattle.pc_run.specs.{Spreading.spread, Underway.Underway}
use Rattle.pc_run.proofs.turns.take_turns.Given as goal

abbrev pub invariant-loop-at : goal.invariant-loop-at
invariant-loop-at l =
    (l.machine.core ≡ l.initial.machine.core) × Underway l.initial.machine.core (spread l.turns) l.machine.configuration l.counts (spread (drop l.at l.turns))
