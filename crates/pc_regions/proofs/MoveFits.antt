-- What a move of a running actor has to preserve, so that the configuration has regions when the move is made: some
-- world fits what the move makes, and preserves what it requires of the other actors and of waiting messages.
use Rattle.std.specs.{Prelude.{◌≡◌, ◌≢◌, ℕ, ◌+◌, ◌<◌, Bool, true, false, not, List, ◌∷◌, length, Option, Some, None, nat_eq, nat_lt, if◌then◌else◌}, FinMap.insert}
use Rattle.pc_heap.specs.{Objects.{ObjectMap, with_value}, declared.value.Value.Value}
use Rattle.pc_caps.specs.declared.capability.Form.{Form}
use Rattle.pc_core.specs.CoreData.{CoreData}
use Rattle.pc_ann.specs.declared.annotation.Ann.{Ann}
use Rattle.pc_semantics.specs.{declared.frames.Frame.Frame, declared.frames.Task.Task, Configurations.{own_address, Around, Move, Stuck, Overflows, Goes, Writes, Makes, Spawns, Enters, Sends, Leaves}, Step.left}
use Rattle.pc_regions.proofs.{World.{World, Opened, Place, InSlot, OnStack, InField, InMail, Fits, Alias, Over, WorldOk}, StackForms.{TasksRise, uses_top}, Fitting.{Active, WaitFits, FramesFit, TopAlias, FieldsFit, MessageFits}}

-- A place of another actor's frames, or of a waiting message.
abbrev pub elsewhere : ℕ → Place → Bool
elsewhere i (InSlot j h s l) = not (nat_eq i j)
elsewhere i (OnStack j h d l) = not (nat_eq i j)
elsewhere i (InField a k) = false
elsewhere i (InMail j t k) = true

-- The place is of none of the actors, or of one of the first `count`.
abbrev pub among : ℕ → Place → Bool
among count (InSlot j h s l) = nat_lt j count
among count (OnStack j h d l) = nat_lt j count
among count (InField a k) = true
among count (InMail j t k) = true

-- One more for actor j, if there is one.
abbrev pub one_more : Option ℕ → ℕ → ℕ
one_more None k = 0
one_more (Some j) k = if nat_eq j k then 1 else 0

-- What is kept of the other `count` actors, and of messages, while actor i makes a move that sends a message to this actor, or none.
pub record Others (w w' : World) (i count : ℕ) (to : Option ℕ) : Type 0 where
  pub fits : (p : Place) (f : Form) (v : Value) → elsewhere i p ≡ true → among count p ≡ true → Fits w p f v → Fits w' p f v
  pub sent : (j : ℕ) → j < count → w'.sent j ≡ w.sent j + one_more to j
  pub top : (j : ℕ) → j < count → i ≢ j → w'.top j ≡ w.top j
  pub opened : (j l : ℕ) → j < count → i ≢ j → w.stands (w.context j l) ≡ Opened j → w'.stands (w'.context j l) ≡ Opened j
  pub over : (j m l : ℕ) → j < count → i ≢ j → Over w j (w.context j m) l → Over w' j (w'.context j m) l
  pub alias : (j b : ℕ) (f : Form) (v : Value) → j < count → i ≢ j → Alias w j b (w.top j) f v → Alias w' j b (w.top j) f v

-- A world has become another, which fits these objects, this many actors, and these frames of actor i.
pub record Turned (core : CoreData) (ann : Ann) (w w' : World) (i count : ℕ) (to : Option ℕ) (objects : ObjectMap) (actors : ℕ) (fs : List Frame) : Type 0 where
  pub world : WorldOk w' objects actors
  pub fields : FieldsFit core w' objects
  pub others : Others w w' i count to
  pub frames : FramesFit core ann w' i fs

abbrev pub RegionMoveOk : CoreData → Ann → World → Around → List Frame → Move → Type 0
RegionMoveOk core ann w around fs (Stuck l) = Unit {0}
RegionMoveOk core ann w around fs Overflows = Unit {0}
RegionMoveOk core ann w around fs (Goes f) = (w' : World) × Turned core ann w w' around.actor around.actors None around.objects around.actors (f ∷ fs)
RegionMoveOk core ann w around fs (Writes a k v f) =
    (w' : World) × Turned core ann w w' around.actor around.actors None (with_value around.objects a k v) around.actors (f ∷ fs)
RegionMoveOk core ann w around fs (Makes a o g f) =
    (w' : World) × Turned core ann w w' around.actor around.actors None (insert around.objects a o) around.actors (g ∷ f ∷ fs)
RegionMoveOk core ann w around fs (Spawns o m f) =
    (w' : World) × Turned core ann w w' around.actor around.actors None (insert around.objects (own_address around.actors) o) (around.actors + 1) (f ∷ fs)
    × MessageFits core w' around.actors 0 m × (w'.sent around.actors ≡ 1) × (w'.top around.actors ≡ 0)
RegionMoveOk core ann w around fs (Enters g f) = (w' : World) × Turned core ann w w' around.actor around.actors None around.objects around.actors (g ∷ f ∷ fs)
RegionMoveOk core ann w around fs (Sends j m f) =
    (j < around.actors) × (w' : World) × Turned core ann w w' around.actor around.actors (Some j) around.objects around.actors (f ∷ fs) × MessageFits core w' j (w.sent j) m
RegionMoveOk core ann w around fs (Leaves v) = (w' : World) × Turned core ann w w' around.actor around.actors None around.objects around.actors (left v fs)

-- A frame that runs with these tasks, the frames below it, and the world in which their values fit.
pub record Situated (core : CoreData) (ann : Ann) (w : World) (around : Around) (f : Frame) (ts : List Task) (fs : List Frame) : Type 0 where
  pub world : WorldOk w around.objects around.actors
  pub fields : FieldsFit core w around.objects
  pub here : around.actor < around.actors
  pub active : Active core ann w around.actor (length fs) f.method f.slots f.stack
  pub tasks : TasksRise core ann f.method ts active.depth active.holds.live active.holds.entries
  pub fresh : uses_top ts ≡ true → TopAlias w around.actor active.holds.base active.holds.entries f.stack
  pub wait : WaitFits core ann w around.actor active.holds.base f.method fs
