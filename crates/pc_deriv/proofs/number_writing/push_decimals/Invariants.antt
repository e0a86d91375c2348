use Rattle.std.proofs.Common.{◌≡◌, ◌+◌, ◌^◌, ◌<◌, ◌≤◌, false, ◌++◌, length, drop}
use Rattle.std.specs.Fmt.{decimal}
use Rattle.pc_deriv.proofs.number_writing.push_decimals.Given as goal

abbrev pub invariant-digits : goal.invariant-digits
invariant-digits l = (l.at ≤ 9) × (length l.last ≡ 9) × (l.front < 10 ^ (l.at + 1)) × (decimal l.number ≡ decimal l.front ++ drop l.at l.last)

abbrev pub decreases-digits : goal.decreases-digits
decreases-digits l = l.front
