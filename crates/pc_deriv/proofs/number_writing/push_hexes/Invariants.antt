use Rattle.std.proofs.Common.{◌≡◌, ◌+◌, ◌^◌, ◌<◌, ◌≤◌, false, ◌++◌, length, drop}
use Rattle.std.specs.Fmt.{digits}
use Rattle.pc_deriv.proofs.number_writing.push_hexes.Given as goal

abbrev pub invariant-digits : goal.invariant-digits
invariant-digits l = (l.at ≤ 16) × (length l.last ≡ 16) × (l.front < 16 ^ l.at) × (digits 16 false l.number ≡ digits 16 false l.front ++ drop l.at l.last)

abbrev pub decreases-digits : goal.decreases-digits
decreases-digits l = l.front
