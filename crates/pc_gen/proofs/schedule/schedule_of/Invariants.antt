use Rattle.std.proofs.Common.{◌≡◌, map}
use Rattle.std.specs.List.{range_with_len}
use Rattle.pc_gen.proofs.Turns.{own_turns}
use Rattle.pc_gen.proofs.schedule.schedule_of.Given as goal

abbrev pub invariant-loop-i : goal.invariant-loop-i
invariant-loop-i l = l.turns ≡ map own_turns (range_with_len 0 l.i)
