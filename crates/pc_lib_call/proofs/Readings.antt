-- A file whose bytes are known is read as its text is, however many bytes the last reading took.
use Rattle.std.proofs.Common.{ℕ, Some, refl, arith}
use Rattle.std.specs.Prelude.{◌<◌, Result, length, codes}
use Rattle.pc_ann.specs.declared.annotation.Ann.{Ann}
use Rattle.pc_deriv.specs.Text.{derivation_limit}
use Rattle.pc_base.specs.Lists.{Text}
use Rattle.pc_refusals.specs.{Source.{AcceptedStage, FromFile, goes_on, refuses, ScheduleStage, SourceStage, source_limit}, Derivation.{DerivationStage, in_parts}, Verdict.{IsReadingOf, Named, Reading, longer, text_as, whole, EndsWith, Verdict}, declared.typing.Accepted.Accepted}
use Rattle.pc_sched.specs.Schedules.{schedule_limit}
use Rattle.pc_commands.specs.Swap.{Swapping}
use Rattle.pc_top.specs.{Commands.Swap.{IsSwap, no_number, placed}, Shapes.{ByNumber, LastOfTurns, OfAccepted, OfDerivation, OfScheduled, OfTurns, spelled}}
use Rattle.pc_top.specs.Shapes as shapes
use Rattle.pc_lib_call.specs.Verdicts.{derivation_file, schedule_file, source_file}

-- The file with this name and these bytes, of which the last reading took this many.
abbrev pub file_of : Text → Text → ℕ → Named
file_of name bytes taken = record { name = name; known = Some bytes; before = 0; now = 0; taken = taken }

as_text : (name bytes : Text) (taken limit : ℕ) (r : Reading) → IsReadingOf (file_of name bytes taken) limit r → IsReadingOf (text_as name bytes) limit r
as_text name bytes taken limit (whole b) h = h
as_text name bytes taken limit longer h = (h.1 refl, h.1)

as_parts : (name bytes : Text) (taken limit : ℕ) (r : Reading) → IsReadingOf (in_parts (file_of name bytes taken)) limit r → IsReadingOf (in_parts (text_as name bytes)) limit r
as_parts name bytes taken limit (whole b) h = h
as_parts name bytes taken limit longer h = let more : limit < length bytes = h.1 refl in (omega (arith, more), h.1)

-- A command that reads one file reads the other.
from_file : {T : Type 0} → (a b : Named) (limit : ℕ) (Stages : Reading → Result T Verdict → Type 0) (L M : T → Verdict → Type 0) (v : Verdict)
    → ((r : Reading) → IsReadingOf a limit r → IsReadingOf b limit r) → ((x : T) → L x v → M x v) → FromFile a limit Stages L v → FromFile b limit Stages M v
from_file a b limit Stages L M v reads goes (refuses r is stage) = refuses r (reads r is) stage
from_file a b limit Stages L M v reads goes (goes_on r x is stage last) = goes_on r x (reads r is) stage (goes x last)

-- ---- by what a command reads

-- a source
pub source_as : {T : Type 0} → (Stages : Reading → Result T Verdict → Type 0) (Last : T → Verdict → Type 0) (source : Text) (taken : ℕ) (v : Verdict)
    → FromFile (file_of (codes "source") source taken) source_limit Stages Last v → FromFile (source_file source) source_limit Stages Last v
source_as Stages Last source taken v =
    from_file (file_of (codes "source") source taken) (source_file source) source_limit Stages Last Last v (as_text (codes "source") source taken source_limit) (λ x h. h)

-- a source and a derivation, whole
pub derivation_as : (text : Ann → Text) (source derivation : Text) (taken : ℕ) (v : Verdict)
    → OfDerivation text (file_of (codes "source") source taken) (file_of (codes "derivation") derivation taken) v → OfDerivation text (source_file source) (derivation_file derivation) v
derivation_as text source derivation taken v =
    from_file (file_of (codes "source") source taken) (source_file source) source_limit (SourceStage (codes "source")) _ _ v (as_text (codes "source") source taken source_limit)
    (λ s h. from_file (file_of (codes "derivation") derivation taken) (derivation_file derivation) derivation_limit (DerivationStage (codes "derivation")) _ _ v (as_text (codes "derivation") derivation taken derivation_limit) (λ ann e. e) h)

-- a source and a derivation, in parts
pub parts_as : (text : Ann → Text) (source derivation : Text) (taken : ℕ) (v : Verdict)
    → OfDerivation text (file_of (codes "source") source taken) (in_parts (file_of (codes "derivation") derivation taken)) v → OfDerivation text (source_file source) (in_parts (derivation_file derivation)) v
parts_as text source derivation taken v =
    from_file (file_of (codes "source") source taken) (source_file source) source_limit (SourceStage (codes "source")) _ _ v (as_text (codes "source") source taken source_limit)
    (λ s h. from_file (in_parts (file_of (codes "derivation") derivation taken)) (in_parts (derivation_file derivation)) derivation_limit (DerivationStage (codes "derivation")) _ _ v (as_parts (codes "derivation") derivation taken derivation_limit) (λ ann e. e) h)

-- a source and a schedule
pub scheduled_as : (Last : LastOfTurns) (source schedule : Text) (taken : ℕ) (v : Verdict)
    → OfScheduled Last (file_of (codes "source") source taken) (file_of (codes "schedule") schedule taken) v → OfScheduled Last (source_file source) (schedule_file schedule) v
scheduled_as Last source schedule taken v =
    from_file (file_of (codes "source") source taken) (source_file source) source_limit (AcceptedStage (codes "source")) (OfTurns Last (file_of (codes "schedule") schedule taken)) (OfTurns Last (schedule_file schedule)) v
    (as_text (codes "source") source taken source_limit)
    (λ accepted h. from_file (file_of (codes "schedule") schedule taken) (schedule_file schedule) schedule_limit (ScheduleStage (codes "schedule")) _ _ v (as_text (codes "schedule") schedule taken schedule_limit) (λ turns e. e) h)

-- the same, and a place
pub swap_as : (source schedule place : Text) (taken : ℕ) (v : Verdict)
    → IsSwap (file_of (codes "source") source taken) (file_of (codes "schedule") schedule taken) place v → IsSwap (source_file source) (schedule_file schedule) place v
swap_as source schedule place taken v (placed n is at) = placed n is (scheduled_as (λ name core list. EndsWith (Swapping name core list n)) source schedule taken v at)
swap_as source schedule place taken v (no_number none e) = no_number none e

-- a source, and a number among the words
pub number_as : (Is : ℕ → Type 0) (Last : ℕ → Accepted → Verdict → Type 0) (source : Text) (taken : ℕ) (v : Verdict)
    → ByNumber Is (λ n. OfAccepted (Last n) (file_of (codes "source") source taken)) v → ByNumber Is (λ n. OfAccepted (Last n) (source_file source)) v
number_as Is Last source taken v (spelled n is of) = spelled n is (source_as (AcceptedStage (codes "source")) (Last n) source taken v of)
number_as Is Last source taken v (shapes.no_number none e) = shapes.no_number none e
