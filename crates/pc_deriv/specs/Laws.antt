-- Laws of all derivation texts.
use Rattle.std.specs.Prelude.{◌≡◌, ℕ, List, ◌++◌, Some, Result, Ok, Err}
use Rattle.pc_ann.specs.declared.annotation.Ann.{Ann}
use Rattle.pc_deriv.specs.{declared.fault.DerivFault.DerivFault, declared.line.Line.Line, declared.line.LineFault.LineFault, Lines.{Taken, nothing_taken, fed, ended_so, lines_of}, Text.{IsText, IsFault}}
use Rattle.pc_deriv.specs.declared.fault.DerivFault.TheVariants as fault
use Rattle.pc_deriv.specs.declared.line.LineFault.TheVariants as line_fault

-- No bytes are the text of two annotations, in one version or in different ones.
abbrev pub OneAnnotation : Type 0
OneAnnotation = (bytes : List ℕ) (a b : Ann) → IsText bytes a → IsText bytes b → a ≡ b

-- No bytes have two faults.
abbrev pub OneFault : Type 0
OneFault = (bytes : List ℕ) (f g : DerivFault) → IsFault bytes f → IsFault bytes g → f ≡ g

-- No bytes are a text and also have a fault.
abbrev pub NoFaultOfText : Type 0
NoFaultOfText = (bytes : List ℕ) (ann : Ann) (f : DerivFault) → IsText bytes ann → IsFault bytes f → ⊥

-- ---- a text that is read in pieces

-- the same fault, as one of the whole text
abbrev pub as_read : LineFault → DerivFault
as_read (line_fault.BadLine n) = fault.BadLine n
as_read line_fault.TooMany = fault.TooMany

-- However bytes are cut into pieces, the same lines end in them, and the state after them is the same.
abbrev pub CutsAreOne : Type 0
CutsAreOne = (t : Taken) (a b : List ℕ) → fed t (a ++ b) ≡ ((fed t a).0 ++ (fed (fed t a).1 b).0, (fed (fed t a).1 b).1)

-- The fault found in the bytes taken, or else at their end, is the fault of the bytes. If there is none, they are the
-- text of an annotation in some version, and the lines are those of that text.
abbrev pub IsRead : List ℕ → List Line → Result (Unit {0}) LineFault → Type 0
IsRead bytes ls (Ok _) = (ann : Ann) × (is : IsText bytes ann) × (ls ≡ lines_of is.version ann)
IsRead bytes ls (Err f) = IsFault bytes (as_read f)

abbrev pub LinesAreRead : Type 0
LinesAreRead = (bytes : List ℕ) → IsRead bytes (fed nothing_taken bytes).0 (ended_so (fed nothing_taken bytes).1)

-- All lines of an annotation's text end in it, and there is no fault.
abbrev pub TextsAreTaken : Type 0
TextsAreTaken = (bytes : List ℕ) (ann : Ann) → (is : IsText bytes ann) → ((fed nothing_taken bytes).0 ≡ lines_of is.version ann) × (ended_so (fed nothing_taken bytes).1 ≡ Ok tt)

-- If the bytes have a fault, it is found.
abbrev pub FaultsAreFound : Type 0
FaultsAreFound = (bytes : List ℕ) (f : LineFault) → IsFault bytes (as_read f) → ended_so (fed nothing_taken bytes).1 ≡ Err f

-- A line's fault is that of the bytes, whatever follows them.
abbrev pub FaultsStay : Type 0
FaultsStay = (bytes more : List ℕ) (f : LineFault) → (fed nothing_taken bytes).1.fault ≡ Some f → IsFault (bytes ++ more) (as_read f)
