-- How one line is processed, and how a piece is.
use Rattle.std.specs.Prelude.{◌≡◌, ℕ, ◌+◌, ◌-◌, ◌<◌, ◌≤◌, true, false, List, [], ◌∷◌, ◌++◌, length, take, drop, slice_get, slice_range, Option, Some, None, Result, Ok, Err}
use Rattle.pc_caps.specs.declared.capability.Cap.{Cap}
use Rattle.pc_core.specs.{declared.nodes.Slot.Slot, declared.nodes.Node.Node, declared.nodes.NodeKind.NodeKind, CoreData.CoreData}
use Rattle.pc_ann.specs.{declared.annotation.Note.Note, declared.annotation.Ann.Ann}
use Rattle.pc_valid.specs.Valid.{Valid}
use Rattle.pc_judge.specs.Faults.{FirstAnnotationFault}
use Rattle.pc_deriv.specs.{declared.line.Line.Line, Lines.{nothing_taken, counts_with}}
use Rattle.pc_referee.specs.Asked.{Pairs}
use Rattle.pc_feed.specs.{declared.fault.StreamFault.StreamFault, declared.judging.Judging.Judging, declared.reading.Reading.Reading, Lines.{lines_in, fault_in, notes_in}, Numbered.numbered_notes, Feeding.FeedAnswer, Streams.{FoundRightUpTo, JudgedSoFar, ReadSo}}
use Rattle.pc_core.specs.declared.nodes.NodeKind.TheVariants as node
use Rattle.pc_deriv.specs.declared.line.Line.TheVariants as line
use Rattle.pc_feed.specs.declared.fault.StreamFault.TheVariants as fault

-- ---- the order of lines

-- After this number of lines, with these counts, there may be a line of this kind.
abbrev pub LineFits : Option (ℕ × ℕ) → ℕ → Line → Type 0
LineFits None n (line.Head version slots nodes) = Unit {0}
LineFits None n (line.Slot entity cap) = ⊥
LineFits None n (line.Node note) = ⊥
LineFits (Some c) n (line.Head version slots nodes) = ⊥
LineFits (Some c) n (line.Slot entity cap) = n ≤ c.0
LineFits (Some c) n (line.Node note) = (c.0 < n) × (n ≤ c.0 + c.1)

-- These lines lead from these counts and this number of lines to those.
abbrev pub Counted : Option (ℕ × ℕ) → ℕ → List Line → Option (ℕ × ℕ) → ℕ → Type 0
Counted c n [] d m = (c ≡ d) × (n ≡ m)
Counted c n (l ∷ ls) d m = LineFits c n l × Counted (counts_with c l) (n + 1) ls d m

-- The line may follow these lines.
pub record MayFollow (ls : List Line) (l : Line) : Type 0 where
  pub counts : Option (ℕ × ℕ)
  pub ended : ℕ
  pub counted : Counted None 0 ls counts ended
  pub fits : LineFits counts ended l

-- ---- a line

-- This type is the one that is written for the slot, if one is.
abbrev pub HasWritten : Slot → ℕ × Cap → Type 0
HasWritten y ty = (wanted : ℕ × Cap) → y.written ≡ Some wanted → wanted ≡ ty

-- The slot with this number may have this type.
abbrev pub MayHave : CoreData → ℕ → ℕ × Cap → Type 0
MayHave core k ty = (y : Slot) → slice_get core.slots k ≡ Some y → HasWritten y ty

-- There is room for the content of the line.
abbrev pub HasRoom : CoreData → Judging → Line → Type 0
HasRoom core j (line.Head version slots nodes) = Unit {0}
HasRoom core j (line.Slot entity cap) = length j.slots < length core.slots
HasRoom core j (line.Node note) = (length j.slots ≡ length core.slots) × (j.right < length core.nodes)

-- The first nodes of these lines, this many, with their notes.
abbrev pub first_nodes : List Line → ℕ → Pairs
first_nodes ls n = take n (numbered_notes 0 (notes_in ls))

-- A list, if it is known, grew as one list did to another.
abbrev pub GrewBy : Pairs → Pairs → Option Pairs → Option Pairs → Type 0
GrewBy old new None after = after ≡ None
GrewBy old new (Some pairs) after = (more : Pairs) × (new ≡ old ++ more) × (after ≡ Some (pairs ++ more))

-- A line was processed after these, or memory ran out.
abbrev pub LineTaken : {E : Type 0} → CoreData → List Line → Line → Judging → Judging → Option Pairs → Option Pairs → Result (Unit {0}) E → Type 0
LineTaken core ls l old new before after (Ok _) = JudgedSoFar core (ls ++ l ∷ []) new × GrewBy (first_nodes ls old.right) (first_nodes (ls ++ l ∷ []) new.right) before after
LineTaken core ls l old new before after (Err e) = FoundRightUpTo core (ls ++ l ∷ []) new.right × GrewBy (first_nodes ls old.right) (first_nodes (ls ++ l ∷ []) new.right) before after

-- No further node was found right.
abbrev pub SameFound : {E : Type 0} → CoreData → List Line → Line → Judging → Judging → Result (Unit {0}) E → Type 0
SameFound core ls l old new (Ok _) = JudgedSoFar core (ls ++ l ∷ []) new × (new.right ≡ old.right)
SameFound core ls l old new (Err e) = FoundRightUpTo core (ls ++ l ∷ []) new.right × (new.right ≡ old.right)

-- The node with this note was found right.
abbrev pub OneFound : {E : Type 0} → CoreData → List Line → Note → Judging → Judging → Result (Unit {0}) E → Type 0
OneFound core ls own old new (Ok _) = JudgedSoFar core (ls ++ line.Node own ∷ []) new × (new.right ≡ old.right + 1)
OneFound core ls own old new (Err e) = FoundRightUpTo core (ls ++ line.Node own ∷ []) new.right × (new.right ≡ old.right + 1)

-- A line was judged, or memory ran out.
abbrev pub LineJudged : CoreData → List Line → Line → Reading → Reading → Option Pairs → Option Pairs → FeedAnswer → Type 0
LineJudged core ls l old new before after (Ok _) =
    (new.spent ≡ false) × (new.lines ≡ old.lines) × JudgedSoFar core (ls ++ l ∷ []) new.judging
    × GrewBy (first_nodes ls old.judging.right) (first_nodes (ls ++ l ∷ []) new.judging.right) before after
LineJudged core ls l old new before after (Err (fault.Text f)) = ⊥
LineJudged core ls l old new before after (Err (fault.Invalid f)) = ⊥
LineJudged core ls l old new before after (Err fault.Memory) =
    (new.spent ≡ true) × FoundRightUpTo core (ls ++ l ∷ []) new.judging.right
    × GrewBy (first_nodes ls old.judging.right) (first_nodes (ls ++ l ∷ []) new.judging.right) before after

-- All lines of an annotation were judged.
abbrev pub JudgedSo : CoreData → Ann → FeedAnswer → Type 0
JudgedSo core ann (Ok _) = Valid core ann
JudgedSo core ann (Err (fault.Text f)) = ⊥
JudgedSo core ann (Err (fault.Invalid f)) = FirstAnnotationFault core ann f
JudgedSo core ann (Err fault.Memory) = ⊥

-- ---- the notes of nodes without a parent so far

-- the last elements, this many
abbrev pub last_of : List Note → ℕ → List Note
last_of waiting count = drop (length waiting - count) waiting

-- those before them
abbrev pub all_but_last : List Note → ℕ → List Note
all_but_last waiting count = take (length waiting - count) waiting

-- a node's note appended, unless it is a body
abbrev pub put_after : List Note → NodeKind → Note → List Note
put_after front node.Body own = front
put_after front k own = front ++ own ∷ []

abbrev pub waits_after : List Note → Node → Note → List Note
waits_after waiting x own = put_after (all_but_last waiting (length x.children)) x.kind own

-- no line has come, and no byte
abbrev pub nothing_judged : Judging
nothing_judged = record { slots = []; waiting = []; right = 0; fault = None }

abbrev pub nothing_read : Reading
nothing_read = record { lines = nothing_taken; judging = nothing_judged; spent = false }

-- ---- a piece

-- These bytes were processed after those.
pub record Went (core : CoreData) (bytes more : List ℕ) (old new : Reading) (before after : Option Pairs) : Type 0 where
  pub reads : ReadSo core (bytes ++ more) new
  pub grew : GrewBy (first_nodes (lines_in bytes) old.judging.right) (first_nodes (lines_in (bytes ++ more)) new.judging.right) before after

-- Memory ran out after some of the lines of these bytes.
pub record RanOut (core : CoreData) (bytes more : List ℕ) (old new : Reading) (before after : Option Pairs) : Type 0 where
  pub spent : new.spent ≡ true
  pub taken : List Line
  pub rest : List Line
  pub cut : lines_in (bytes ++ more) ≡ taken ++ rest
  pub right : ℕ
  pub found : FoundRightUpTo core taken right
  pub grew : GrewBy (first_nodes (lines_in bytes) old.judging.right) (first_nodes taken right) before after

-- A piece was processed from one place on: up to the end of its next line, or to its end.
abbrev pub NextTaken : CoreData → List ℕ → List ℕ → ℕ → Reading → Reading → Option Pairs → Option Pairs → Result (Option ℕ) StreamFault → Type 0
NextTaken core bytes piece at old new before after (Ok (Some stop)) = (at < stop) × (stop ≤ length piece) × Went core bytes (slice_range piece at stop) old new before after
NextTaken core bytes piece at old new before after (Ok None) = Went core bytes (drop at piece) old new before after × (fault_in (bytes ++ drop at piece) ≡ None)
NextTaken core bytes piece at old new before after (Err (fault.Text f)) = Went core bytes (drop at piece) old new before after × (fault_in (bytes ++ drop at piece) ≡ Some f)
NextTaken core bytes piece at old new before after (Err (fault.Invalid f)) = ⊥
NextTaken core bytes piece at old new before after (Err fault.Memory) = RanOut core bytes (drop at piece) old new before after

-- A whole piece was processed.
abbrev pub PieceTaken : CoreData → List ℕ → List ℕ → Reading → Reading → Option Pairs → Option Pairs → FeedAnswer → Type 0
PieceTaken core bytes piece old new before after (Ok _) = Went core bytes piece old new before after × (fault_in (bytes ++ piece) ≡ None)
PieceTaken core bytes piece old new before after (Err (fault.Text f)) = Went core bytes piece old new before after × (fault_in (bytes ++ piece) ≡ Some f)
PieceTaken core bytes piece old new before after (Err (fault.Invalid f)) = ⊥
PieceTaken core bytes piece old new before after (Err fault.Memory) = RanOut core bytes piece old new before after
