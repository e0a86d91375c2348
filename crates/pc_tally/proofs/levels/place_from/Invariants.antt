use Rattle.std.proofs.Common.{◌≡◌, ◌≤◌, sum, take}
use Rattle.pc_tally.proofs.levels.place_from.Given as goal

abbrev pub invariant-numbers : goal.invariant-numbers
invariant-numbers l = record {
  before : l.before ≡ sum (take l.at l.numbers);
  begun : l.before ≤ l.wanted;
}
