-- How reading lines stops before the last.
use Rattle.std.specs.Prelude.{◌≡◌, ℕ, ◌+◌, ◌<◌, List, length, ⊤}
use Rattle.pc_deriv.specs.{Text.{slot_line, note_line, SlotFits, NoteFits, BeginsLine, NoLine}, declared.version.Version.Version, declared.fault.DerivFault.DerivFault}
use Rattle.pc_deriv.specs.declared.fault.DerivFault.TheVariants as fault

-- After some lines, fewer than wanted, there is no further one.
pub record StopsEarly {A : Type 0} (line : A → List ℕ) (Fits : A → Type 0) (text : List ℕ) (before wanted n : ℕ) : Type 0 where
  pub read : List A
  pub rest : List ℕ
  pub begins : BeginsLine line Fits text read rest
  pub fewer : length read < wanted
  pub ends : NoLine line Fits rest
  pub number : n ≡ before + length read + 2

abbrev pub SlotsStop : List ℕ → ℕ → DerivFault → Type 0
SlotsStop text wanted (fault.BadLine n) = StopsEarly slot_line SlotFits text 0 wanted n
SlotsStop text wanted fault.TooMany = ⊥
SlotsStop text wanted fault.Memory = ⊤

abbrev pub NotesStop : Version → List ℕ → (slots wanted : ℕ) → DerivFault → Type 0
NotesStop version text slots wanted (fault.BadLine n) = StopsEarly (note_line version) NoteFits text slots wanted n
NotesStop version text slots wanted fault.TooMany = ⊥
NotesStop version text slots wanted fault.Memory = ⊤
