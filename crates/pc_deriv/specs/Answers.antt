-- What reading a derivation may return.
use Rattle.std.specs.Prelude.{◌≡◌, Result, Err, ◌⊎◌}
use Rattle.pc_ann.specs.declared.annotation.Ann.{Ann}
use Rattle.pc_deriv.specs.declared.fault.DerivFault.{DerivFault}
use Rattle.pc_deriv.specs.declared.fault.DerivFault.TheVariants as fault

-- The result is this answer, or memory ran out.
abbrev pub AnswersDerivation : Result Ann DerivFault → Result Ann DerivFault → Type 0
AnswersDerivation result wanted = (result ≡ wanted) ⊎ (result ≡ Err fault.Memory)
