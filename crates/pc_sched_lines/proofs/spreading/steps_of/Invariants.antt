use Rattle.std.proofs.Common.{◌≡◌, take}
use Rattle.pc_run.specs.Spreading.{spread}
use Rattle.pc_sched_lines.proofs.spreading.steps_of.Given as goal

abbrev pub invariant-loop-turn : goal.invariant-loop-turn
invariant-loop-turn l = l.list ≡ spread (take l.turn-index l.turns)
