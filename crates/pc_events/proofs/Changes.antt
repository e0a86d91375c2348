-- What a step changes, as data: the actor's own frames and mailbox, one object, another actor's mailbox, one more
-- actor, a text.
use Rattle.std.specs.{Prelude.{ℕ, zero, suc, Bool, true, false, List, [], ◌∷◌, ◌++◌, length, Option, Some, None, slice_get}, FinMap.insert}
use Rattle.pc_heap.specs.{Objects.{ObjectMap, with_value, Object}, declared.value.Address.Address, declared.value.Value.Value, declared.value.Value.TheVariants.{Text, At}}
use Rattle.pc_core.specs.{CoreData.CoreData, declared.declarations.Method.Method}
use Rattle.pc_semantics.specs.{declared.actors.Actor.Actor, declared.frames.Frame.Frame, declared.frames.Task.Task, declared.mailbox.Message.Message, Configurations.{Configuration, own_address, Move, Stuck, Overflows, Goes, Writes, Makes, Spawns, Enters, Sends, Leaves, first_frame}, Step.{task_move, left}}

-- ---- the objects

pub data Heaping : Type 0 where
  Same : Heaping
  -- a field of the object at an address gets a value
  Sets : Address → ℕ → Value → Heaping
  -- a new object
  New : Address → Object → Heaping

abbrev pub heaped : Heaping → ObjectMap → ObjectMap
heaped Same h = h
heaped (Sets a k v) h = with_value h a k v
heaped (New a o) h = insert h a o

-- ---- the actors

-- One actor is changed.
abbrev pub changed : List Actor → ℕ → (Actor → Actor) → List Actor
changed [] i g = []
changed (b ∷ bs) zero g = g b ∷ bs
changed (b ∷ bs) (suc i) g = b ∷ changed bs i g

abbrev pub behind : List Message → List Message
behind [] = []
behind (m ∷ ms) = ms

abbrev pub left_mail : Bool → List Message → List Message
left_mail true ms = behind ms
left_mail false ms = ms

-- The actor goes on with these frames, and its first message is gone or not.
abbrev pub going : Bool → List Frame → Actor → Actor
going takes fs a = record { mailbox = left_mail takes a.mailbox; frames = fs }

-- A message is appended to those that wait.
abbrev pub pushing : Message → Actor → Actor
pushing m a = record { mailbox = a.mailbox ++ m ∷ []; frames = a.frames }

abbrev pub born : Message → Actor
born m = record { mailbox = m ∷ []; frames = [] }

abbrev pub sent : Option (ℕ × Message) → List Actor → List Actor
sent None l = l
sent (Some p) l = changed l p.0 (pushing p.1)

abbrev pub spawned : Option Message → List Actor → List Actor
spawned None l = l
spawned (Some m) l = l ++ born m ∷ []

abbrev pub printed_with : Option (List ℕ) → List (List ℕ) → List (List ℕ)
printed_with None p = p
printed_with (Some t) p = p ++ t ∷ []

-- ---- the whole

pub record Change : Type 0 where
  pub takes : Bool
  pub frames : List Frame
  pub heap : Heaping
  pub sends : Option (ℕ × Message)
  pub spawns : Option Message
  pub prints : Option (List ℕ)

abbrev pub acted : ℕ → Change → List Actor → List Actor
acted i x l = sent x.sends (changed l i (going x.takes x.frames))

abbrev pub applied : Configuration → ℕ → Change → Configuration
applied c i x = record {
  objects = heaped x.heap c.objects;
  actors = spawned x.spawns (acted i x c.actors);
  printed = printed_with x.prints c.printed;
}

-- ---- what a step would change; none if it does not move

abbrev pub local : List Frame → Change
local fs = record { takes = false; frames = fs; heap = Same; sends = None; spawns = None; prints = None }

abbrev pub on_heap : List Frame → Heaping → Change
on_heap fs x = record { takes = false; frames = fs; heap = x; sends = None; spawns = None; prints = None }

-- With n actors.
abbrev pub planned : ℕ → List Frame → Move → Option Change
planned n fs (Stuck l) = None
planned n fs Overflows = None
planned n fs (Goes f) = Some (local (f ∷ fs))
planned n fs (Writes a k v f) = Some (on_heap (f ∷ fs) (Sets a k v))
planned n fs (Makes a o g f) = Some (on_heap (g ∷ f ∷ fs) (New a o))
planned n fs (Spawns o m f) = Some (record { takes = false; frames = f ∷ fs; heap = New (own_address n) o; sends = None; spawns = Some m; prints = None })
planned n fs (Enters g f) = Some (local (g ∷ f ∷ fs))
planned n fs (Sends j m f) = Some (record { takes = false; frames = f ∷ fs; heap = Same; sends = Some (j, m); spawns = None; prints = None })
planned n fs (Leaves v) = Some (local (left v fs))

abbrev pub plan_print : List Value → Option Change
plan_print (Text t ∷ []) = Some (record { takes = true; frames = []; heap = Same; sends = None; spawns = None; prints = Some t })
plan_print vs = None

abbrev pub plan_begun : ℕ → Message → Method → Option ℕ → Option Change
plan_begun i m x None = None
plan_begun i m x (Some body) = Some (record { takes = true; frames = first_frame m.method x (At (own_address i)) m.arguments body ∷ []; heap = Same; sends = None; spawns = None; prints = None })

abbrev pub plan_begin : ℕ → Message → Option Method → Option Change
plan_begin i m None = None
plan_begin i m (Some x) = plan_begun i m x x.body

abbrev pub plan_message : CoreData → ℕ → Message → Option Change
plan_message core zero m = plan_print m.arguments
plan_message core (suc i) m = plan_begin (suc i) m (slice_get core.methods m.method)

abbrev pub plan_first : CoreData → ℕ → List Message → Option Change
plan_first core i [] = None
plan_first core i (m ∷ ms) = plan_message core i m

abbrev pub plan_tasks : CoreData → ObjectMap → ℕ → ℕ → Frame → List Frame → List Task → Option Change
plan_tasks core h n i f fs [] = None
plan_tasks core h n i f fs (t ∷ ts) = planned n fs (task_move core (record { objects = h; actor = i; actors = n }) (record { method = f.method; slots = f.slots; stack = f.stack; tasks = ts }) t)

abbrev pub plan_frames : CoreData → ObjectMap → ℕ → ℕ → List Message → List Frame → Option Change
plan_frames core h n i ms [] = plan_first core i ms
plan_frames core h n i ms (f ∷ fs) = plan_tasks core h n i f fs f.tasks

abbrev pub plan_actor : CoreData → ObjectMap → ℕ → ℕ → Option Actor → Option Change
plan_actor core h n i None = None
plan_actor core h n i (Some a) = plan_frames core h n i a.mailbox a.frames

abbrev pub plan : CoreData → Configuration → ℕ → Option Change
plan core c i = plan_actor core c.objects (length c.actors) i (slice_get c.actors i)
