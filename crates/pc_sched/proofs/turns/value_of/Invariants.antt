use Rattle.std.proofs.Common.{◌<◌, ◌^◌, ◌≡◌, drop}
use Rattle.pc_sched.specs.Schedules.{decimal_value}
use Rattle.pc_sched.proofs.turns.value_of.Given as goal

abbrev pub invariant-loop-b : goal.invariant-loop-b
invariant-loop-b l = (l.value < 2 ^ 32) × (decimal_value l.value (drop l.b-index l.digits) ≡ decimal_value 0 l.digits)
