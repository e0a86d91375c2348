-- Further words on derivations, for contracts of code.
use Rattle.std.specs.Prelude.{ℕ, List, ⊤, codes, flat_map}
use Rattle.pc_base.specs.Limits.{program_slot_limit, node_limit}
use Rattle.pc_deriv.specs.{declared.version.Version.Version, declared.fault.DerivFault.DerivFault, Text.IsFault}
use Rattle.pc_deriv.specs.declared.version.Version.TheVariants as version
use Rattle.pc_deriv.specs.declared.fault.DerivFault.TheVariants as fault

abbrev pub version_number : Version → ℕ
version_number version.One = 1
version_number version.Two = 2

-- The fault of the bytes, or memory ran out.
abbrev pub RefusesDerivation : List ℕ → DerivFault → Type 0
RefusesDerivation bytes fault.Memory = ⊤
RefusesDerivation bytes f = IsFault bytes f

abbrev pub blank : List ℕ
blank = codes " "

-- the lines of several things, one after the other
abbrev pub each_line : {A : Type 0} → (A → List ℕ) → List A → List ℕ
each_line line xs = flat_map line xs

abbrev pub derivation_slot_limit : ℕ
derivation_slot_limit = program_slot_limit

abbrev pub derivation_node_limit : ℕ
derivation_node_limit = node_limit
