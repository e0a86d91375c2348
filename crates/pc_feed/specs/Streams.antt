-- The state of a stream, and when it is the right one after some bytes.
use Rattle.std.specs.Prelude.{◌≡◌, ◌⊎◌, ℕ, ◌<◌, ◌≤◌, true, false, List, [], ◌∷◌, ◌++◌, length, map, Option, Some, None, slice_get}
use Rattle.pc_core.specs.{declared.nodes.Slot.Slot, CoreData.CoreData}
use Rattle.pc_ann.specs.{declared.annotation.Note.Note, declared.annotation.Ann.Ann}
use Rattle.pc_sub.specs.Declarations.{DeclOk}
use Rattle.pc_rules.specs.Parts.{notes_of}
use Rattle.pc_valid.specs.Words.{Slots}
use Rattle.pc_judge.specs.{declared.faults.JudgeFault.JudgeFault, Faults.{KeepsType, FirstAnnotationFault}, AtNodes.NodePasses}
use Rattle.pc_deriv.specs.{declared.version.Version.Version, declared.line.Line.Line, Lines.{nothing_taken, fed, line_of_slot, lines_of}}
use Rattle.pc_feed.specs.{Waiting.{WaitingNodes, BeginsAnnotation}, declared.judging.Judging.Judging, declared.reading.Reading.Reading, Lines.{lines_in, notes_in}, Asked.IsFoundRight}
use Rattle.pc_deriv.specs.declared.line.Line.TheVariants as line

-- The core that is judged, and what is known of the text and of its annotation.
pub record StreamData : Type 0 where
  pub core : CoreData
  pub reading : Reading

-- The lines are those of these slots and nodes: none yet, or the version and the counts, followed by slots and nodes.
pub data StandsForLines (core : CoreData) (ls : List Line) (slots : Slots) (notes : List Note) : Type 0 where
  no_line : ls ≡ [] → slots ≡ [] → notes ≡ [] → StandsForLines core ls slots notes
  after_head : (version : ℕ) → ls ≡ line.Head version (length core.slots) (length core.nodes) ∷ (map line_of_slot slots ++ map line.Node notes)
      → length slots ≤ length core.slots → length notes ≤ length core.nodes
      → (notes ≡ []) ⊎ (length slots ≡ length core.slots) → StandsForLines core ls slots notes

-- There is no fault in these lines. What is kept are the types of the slots, the notes of the nodes without a parent so
-- far, and how many nodes were found right.
pub record NothingWrong (core : CoreData) (ls : List Line) (j : Judging) : Type 0 where
  pub notes : List Note
  pub lines : StandsForLines core ls j.slots notes
  pub count : j.right ≡ length notes
  pub numbers : List ℕ
  pub waits : WaitingNodes core (length notes) numbers
  pub waiting : notes_of notes numbers ≡ Some j.waiting
  pub written : (k : ℕ) (y : Slot) → k < length j.slots → slice_get core.slots k ≡ Some y → KeepsType (record { slots = j.slots; notes = notes }) k y
  pub passed : (ann : Ann) → BeginsAnnotation ann j.slots notes → (k : ℕ) → k < length notes → NodePasses core ann k

-- The first nodes, this many, are found right, whatever lines follow.
pub record FoundRightUpTo (core : CoreData) (ls : List Line) (right : ℕ) : Type 0 where
  pub few : right ≤ length (notes_in ls)
  pub each : (more : List Line) (k : ℕ) → k < right → IsFoundRight core (ls ++ more) k

-- These lines have this fault: it is the first fault of every annotation whose lines in some version begin like this,
-- unless a declaration fails; and no further node is found right, whatever lines follow.
pub record Wrong (core : CoreData) (ls : List Line) (right : ℕ) (f : JudgeFault) : Type 0 where
  pub found : FoundRightUpTo core ls right
  pub stops : (more : List Line) (k : ℕ) → right ≤ k → IsFoundRight core (ls ++ more) k → ⊥
  pub first : (version : Version) (ann : Ann) (more : List Line) → lines_of version ann ≡ ls ++ more → DeclOk core → FirstAnnotationFault core ann f

abbrev pub JudgedBy : CoreData → List Line → Judging → Option JudgeFault → Type 0
JudgedBy core ls j None = NothingWrong core ls j
JudgedBy core ls j (Some f) = Wrong core ls j.right f

abbrev pub JudgedSoFar : CoreData → List Line → Judging → Type 0
JudgedSoFar core ls j = JudgedBy core ls j j.fault

-- The state is the right one for these bytes, and memory did not run out.
pub record ReadSo (core : CoreData) (bytes : List ℕ) (r : Reading) : Type 0 where
  pub enough : r.spent ≡ false
  pub taken : r.lines ≡ (fed nothing_taken bytes).1
  pub judged : JudgedSoFar core (lines_in bytes) r.judging

-- The stream judges this core, and these bytes were fed to it.
abbrev pub IsFed : CoreData → List ℕ → StreamData → Type 0
IsFed core bytes s = (s.core ≡ core) × ReadSo core bytes s.reading

-- Memory ran out when a piece was fed.
abbrev pub IsSpent : StreamData → Type 0
IsSpent s = s.reading.spent ≡ true

-- Bytes were fed, or memory ran out.
abbrev pub MayFeed : CoreData → Reading → Type 0
MayFeed core r = ((bytes : List ℕ) × ReadSo core bytes r) ⊎ (r.spent ≡ true)
