use Rattle.std.proofs.Common.{length, ◌-◌, ◌^◌, ◌≡◌, ◌≤◌, drop}
use Rattle.pc_deriv.specs.Reading.{digits_on, number_at}
use Rattle.pc_deriv.proofs.numbers.mask_at.Given as goal

abbrev pub invariant-digits : goal.invariant-digits
invariant-digits l = (l.at ≤ length l.text) × (digits_on 16 (2 ^ 64 - 1) l.end l.value (drop l.at l.text) ≡ number_at 16 (2 ^ 64 - 1) l.end l.text)

abbrev pub decreases-digits : goal.decreases-digits
decreases-digits l = length l.text - l.at
