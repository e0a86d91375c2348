use Rattle.std.proofs.Common.{length, ◌-◌, ◌^◌, ◌≡◌, ◌<◌, ◌≤◌, drop}
use Rattle.pc_deriv.specs.Reading.{digits_on, number_at}
use Rattle.pc_deriv.proofs.numbers.decimal_at.Given as goal

abbrev pub invariant-digits : goal.invariant-digits
invariant-digits l = (l.at ≤ length l.text) × (l.value < 2 ^ 32) × (digits_on 10 (2 ^ 32 - 1) l.end l.value (drop l.at l.text) ≡ number_at 10 (2 ^ 32 - 1) l.end l.text)

abbrev pub decreases-digits : goal.decreases-digits
decreases-digits l = length l.text - l.at
