use Rattle.std.proofs.Common.{◌≡◌, length}
use Rattle.pc_sub.proofs.groups.no_groups.Given as goal

abbrev pub invariant-loop : goal.invariant-loop
invariant-loop l = length l.named ≡ l.counter
