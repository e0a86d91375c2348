use Rattle.std.proofs.Common.{◌≡◌, sum, take}
use Rattle.pc_tally.proofs.levels.sum_to.Given as goal

abbrev pub invariant-numbers : goal.invariant-numbers
invariant-numbers l = l.before ≡ sum (take l.at l.numbers)
