-- The texts of a call as files in memory, each with its name.
use Rattle.std.specs.{Prelude.{◌≡◌, List, Some, codes, if◌then◌else◌}, Str.bytes_eq}
use Rattle.pc_lib_buffers.specs.{declared.beside.Beside.Beside, declared.beside.Beside.TheVariants.{Nothing, Derivation, Schedule}}
use Rattle.pc_io.specs.{Entries.held, declared.entries.Entry.Entry}
use Rattle.pc_base.specs.Lists.{Text}

-- The files have the text beside the source.
abbrev pub HoldsBeside : List Entry → Beside → Type 0
HoldsBeside entries Nothing = Unit {0}
HoldsBeside entries (Derivation derivation) = held entries (codes "derivation") ≡ Some derivation.now
HoldsBeside entries (Schedule schedule) = held entries (codes "schedule") ≡ Some schedule.now

-- They have the source and the text beside it.
abbrev pub HoldsTexts : List Entry → Text → Beside → Type 0
HoldsTexts entries source beside = (held entries (codes "source") ≡ Some source) × HoldsBeside entries beside

-- They have what they had before, and the text with this name.
abbrev pub Adds : List Entry → List Entry → (name bytes : Text) → Type 0
Adds old new name bytes = (n : Text) → held new n ≡ (if bytes_eq name n then Some bytes else held old n)

abbrev pub AddsBeside : List Entry → List Entry → Beside → Type 0
AddsBeside old new Nothing = (n : Text) → held new n ≡ held old n
AddsBeside old new (Derivation derivation) = Adds old new (codes "derivation") derivation.now
AddsBeside old new (Schedule schedule) = Adds old new (codes "schedule") schedule.now
