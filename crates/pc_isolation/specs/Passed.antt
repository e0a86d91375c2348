-- What is inside a waiting argument stays inside until its message is taken, and is then handed over as a whole.
use Rattle.std.specs.Prelude.{◌≡◌, ◌↔◌, ℕ, suc, ◌+◌, List, [], ◌∷◌, Some, slice_get}
use Rattle.pc_heap.specs.{Fields.value_at, declared.value.Address.Address, declared.value.Value.TheVariants.At}
use Rattle.pc_caps.specs.declared.capability.Cap.{Cap}
use Rattle.pc_core.specs.CoreData.{CoreData}
use Rattle.pc_semantics.specs.{declared.actors.Actor.Actor, declared.frames.Frame.Frame, declared.mailbox.Message.Message, Configurations.Configuration, Step.{step, run_from}, Ahead.ahead_of}
use Rattle.pc_events.specs.Before.{takes_from}
use Rattle.pc_isolation.specs.Isolated.{waiting_at, Waits, Inside, SeenFrom}
use Rattle.pc_semantics.specs.declared.ahead.Ahead.TheVariants as ahead

-- The message that was the k-th for actor j at c is the l-th at d, and is unchanged: the same objects are inside each
-- of its arguments and seen from it, and the contents of each of their fields are the same.
pub record Whole (core : CoreData) (c d : Configuration) (j k l : ℕ) (message : Message) : Type 0 where
  pub waits : waiting_at d j l ≡ Some message
  pub inside : (n : ℕ) (b : Address) → Inside core c j k n b ↔ Inside core d j l n b
  pub seen : (n : ℕ) (b : Address) → SeenFrom core c j k n b ↔ SeenFrom core d j l n b
  pub values : (n : ℕ) (b : Address) → SeenFrom core c j k n b → (place : ℕ) → value_at d.objects b place ≡ value_at c.objects b place

-- This holds after any further steps that take no more messages from its mailbox than waited before it.
abbrev pub StaysWhole : CoreData → Configuration → Type 0
StaysWhole core c =
    (more : List ℕ) (j k l : ℕ) (message : Message) → waiting_at c j k ≡ Some message → k ≡ l + takes_from core c j more → Whole core c (run_from core c more) j k l message

-- At d actor j has one frame, which holds the object at a in the slot of parameter n, and the objects are those of c:
-- so the same fields lead to the same objects.
pub record HandedOver (core : CoreData) (c d : Configuration) (j n : ℕ) (a : Address) : Type 0 where
  pub objects : d.objects ≡ c.objects
  pub actor : Actor
  pub is_actor : slice_get d.actors j ≡ Some actor
  pub frame : Frame
  pub begins : actor.frames ≡ frame ∷ []
  pub slot : slice_get frame.slots (suc n) ≡ Some (Some (At a))

abbrev pub TakenWhole : CoreData → Configuration → Type 0
TakenWhole core c = (j n : ℕ) (q : Cap) (a : Address) → ahead_of core c j ≡ ahead.Take → Waits core c j 0 n q a → HandedOver core c (step core c j).1 j n a
