-- The ranges of the statuses of refusals.
use Rattle.std.proofs.Common.{◌≡◌, ◌≤◌, ◌⊎◌, ℕ, Err, inl, inr, refl, arith}
use Rattle.pc_lex.specs.{Faults.FirstLexFault, declared.fault.LexFault.LexFault}
use Rattle.pc_lex.specs.declared.fault.LexFault.TheVariants as fault
use Rattle.pc_deriv.specs.{Text.IsFault, declared.fault.DerivFault.DerivFault}
use Rattle.pc_deriv.specs.declared.fault.DerivFault.TheVariants as deriv
use Rattle.pc_names.specs.{Faults.IsNotMemory, declared.fault.NameFault.NameFault}
use Rattle.pc_names.specs.declared.fault.NameFault.TheVariants as names
use Rattle.pc_base.specs.Lists.{Text}
use Rattle.pc_refusals.specs.{Source.{AcceptedStage, Typing, ScheduleStage, CoreStage, FileStage, SourceStage}, Source.Typing.{declared, no_rule, unset}, Source.After.{stops, goes}, Derivation.{DerivationStage, text_status}, Derivation.Deriving.garbled, FaultLines.{fault_status, name_status}, Verdict.{Reading, Verdict, IsAccepting}, Source.Scheduling.{bad_word, too_many}, Source.Length.{fits, is_longer}, Source.Lexing.faulty, Source.Parsing.{astray, nested}, Source.Elaborating.{misnamed, misused}, Source.TextStage.has_none, declared.source.Source.Source}

-- Neither that of a derivation that is not there, nor of a command that went through.
abbrev pub IsOther : ℕ → Type 0
IsOther status = (2 ≤ status) × (status ≤ 8)

fault_other : (bytes : Text) (f : LexFault) → FirstLexFault bytes f → IsOther (fault_status f)
fault_other bytes fault.Memory (ps, rest, at, pieces, few, place, bad) = elim bad [ ]
fault_other bytes f h = (omega arith, omega arith)

text_other : (bytes : Text) (f : DerivFault) → IsFault bytes f → IsOther (text_status f)
text_other bytes (deriv.BadLine n) h = (omega arith, omega arith)
text_other bytes deriv.TooMany h = (omega arith, omega arith)
text_other bytes deriv.Memory h = absurd h

name_other : (f : NameFault) → IsNotMemory f → IsOther (name_status f)
name_other names.Memory o = absurd (o refl)
name_other f o = (omega arith, omega arith)

core_other : {name bytes : Text} {v : Verdict} → CoreStage name bytes (Err v) → IsOther v.status
core_other {bytes = bytes} (stops (faulty f h)) = fault_other bytes f h
core_other (goes t (stops (astray h))) = (omega arith, omega arith)
core_other (goes t (stops (nested h))) = (omega arith, omega arith)
core_other (goes t (goes tree (misnamed f o h))) = name_other f o
core_other (goes t (goes tree (misused f o h))) = name_other f o

pub source_other : {name : Text} {r : Reading} {v : Verdict} → SourceStage name r (Err v) → IsOther v.status
source_other (stops is_longer) = (omega arith, omega arith)
source_other (goes (fits l) (has_none h)) = core_other h

pub file_other : {name : Text} {r : Reading} {v : Verdict} → FileStage name r (Err v) → IsOther v.status
file_other (stops is_longer) = (omega arith, omega arith)
file_other (goes (fits {bytes = b} l) (stops (faulty f h))) = fault_other b f h
file_other (goes (fits l) (goes t (astray h))) = (omega arith, omega arith)
file_other (goes (fits l) (goes t (nested h))) = (omega arith, omega arith)

pub derivation_other : {name : Text} {r : Reading} {v : Verdict} → DerivationStage name r (Err v) → IsOther v.status
derivation_other (stops is_longer) = (omega arith, omega arith)
derivation_other (goes (fits {bytes = b} l) (garbled f h)) = text_other b f h

pub schedule_other : {name : Text} {r : Reading} {v : Verdict} → ScheduleStage name r (Err v) → IsOther v.status
schedule_other (stops is_longer) = (omega arith, omega arith)
schedule_other (goes (fits l) (bad_word at h)) = (omega arith, omega arith)
schedule_other (goes (fits l) (too_many at h)) = (omega arith, omega arith)

-- A core without a derivation is refused with 1.
pub typing_one : {name : Text} {s : Source} {v : Verdict} → Typing name s (Err v) → v.status ≡ 1
typing_one (declared f h) = refl
typing_one (no_rule ann n h) = refl
typing_one (unset ann m h) = refl

-- ---- none of them accepts

pub other_refuses : (status : ℕ) → IsOther status → IsAccepting status → ⊥
other_refuses status l (inl e) = let low = l.0 in omega (arith, low, e)
other_refuses status l (inr e) = let high = l.1 in omega (arith, high, e)

pub one_refuses : (status : ℕ) → status ≡ 1 → IsAccepting status → ⊥
one_refuses status o (inl e) = omega (arith, o, e)
one_refuses status o (inr e) = omega (arith, o, e)

pub six_refuses : IsAccepting 6 → ⊥
six_refuses (inl e) = omega (arith, e)
six_refuses (inr e) = omega (arith, e)

pub accepted_refuses : {name : Text} {r : Reading} {v : Verdict} → AcceptedStage name r (Err v) → IsAccepting v.status → ⊥
accepted_refuses {v = v} (stops h) e = other_refuses v.status (source_other h) e
accepted_refuses {v = v} (goes {x = s} h t) e = one_refuses v.status (typing_one t) e

-- ---- what a verdict's status may be

-- That of no failure.
abbrev pub IsOwn : ℕ → Type 0
IsOwn status = (status ≤ 8) ⊎ (status ≡ 12) ⊎ (status ≡ 15)

-- That of what a command does with a source that has a derivation: all of these but 1.
abbrev pub IsLate : ℕ → Type 0
IsLate status = (status ≡ 0) ⊎ IsOther status ⊎ (status ≡ 12) ⊎ (status ≡ 15)

pub other_own : (status : ℕ) → IsOther status → IsOwn status
other_own status l = inl l.1

pub late_own : (status : ℕ) → IsLate status → IsOwn status
late_own status (inl zero) = inl (omega (arith, zero))
late_own status (inr (inl other)) = inl other.1
late_own status (inr (inr (inl twelve))) = inr (inl twelve)
late_own status (inr (inr (inr fifteen))) = inr (inr fifteen)

pub other_not_one : (status : ℕ) → IsOther status → status ≡ 1 → ⊥
other_not_one status l e = let low = l.0 in omega (arith, low, e)

pub late_not_one : (status : ℕ) → IsLate status → status ≡ 1 → ⊥
late_not_one status (inl zero) e = omega (arith, zero, e)
late_not_one status (inr (inl other)) e = other_not_one status other e
late_not_one status (inr (inr (inl twelve))) e = omega (arith, twelve, e)
late_not_one status (inr (inr (inr fifteen))) e = omega (arith, fifteen, e)

pub accepted_own : {name : Text} {r : Reading} {v : Verdict} → AcceptedStage name r (Err v) → IsOwn v.status
accepted_own {v = v} (stops h) = other_own v.status (source_other h)
accepted_own {v = v} (goes {x = s} h t) = let one = typing_one t in inl (omega (arith, one))
