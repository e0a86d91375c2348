-- The events of a run that are more than plain steps.
use Rattle.std.specs.Prelude.{◌≡◌, ◌<◌, ℕ, zero, suc, List, [], ◌∷◌, length, Option, Some, None, slice_get}
use Rattle.pc_core.specs.CoreData.{CoreData}
use Rattle.pc_heap.specs.{Objects.class_at, declared.value.Address.Address}
use Rattle.pc_base.specs.Lists.{◌>>=◌, Each}
use Rattle.pc_semantics.specs.{Ahead.ahead_of, Configurations.Configuration, Safety.access}
use Rattle.pc_events.specs.{Before.{at_place, Event, Carries, waiting_for}, Clock.Clocks}
use Rattle.pc_run_events.specs.{declared.events.Deed.Deed, declared.events.RunEvent.RunEvent}
use Rattle.pc_trace.specs.declared.touch.Touch.{Touch}
use Rattle.pc_semantics.specs.declared.ahead.Ahead.TheVariants as ahead
use Rattle.pc_run_events.specs.declared.events.Deed.TheVariants as deed

-- The message that the event at q takes was sent by the event at this place, counted from 1; or no event sent it.
abbrev pub SentAt : CoreData → List ℕ → (taken place : ℕ) → Type 0
SentAt core list q zero = (p : ℕ) → Carries core list p q → ⊥
SentAt core list q (suc p) = Carries core list p q

-- The method of message n of those that wait for an actor, counted from 0 with the oldest first.
abbrev pub method_waiting : Configuration → (actor n : ℕ) → Option ℕ
method_waiting c a n = do
  x ← slice_get c.actors a
  m ← slice_get x.mailbox n
  Some m.method

-- There was no object at this address before, and there is one of this entity after.
abbrev pub MadeThere : (before after : Configuration) → Address → (entity : ℕ) → Type 0
MadeThere c d a e = (class_at c.objects a ≡ None) × (class_at d.objects a ≡ Some e)

-- What the step of actor i at place p does. A message that is sent comes last in its receiver's mailbox. A step that
-- makes an actor also makes the actor's own object, which does not count as a deed of its own.
abbrev pub Does : CoreData → List ℕ → (place actor : ℕ) → Deed → Type 0
Does core list p i (deed.Take m sent) =
    (ahead_of core (at_place core list p) i ≡ ahead.Take) × (method_waiting (at_place core list p) i 0 ≡ Some m) × SentAt core list p sent
Does core list p i (deed.Send r m) =
    (ahead_of core (at_place core list p) i ≡ ahead.Send r)
    × (method_waiting (at_place core list (suc p)) r (waiting_for (at_place core list p) r) ≡ Some m)
Does core list p i (deed.Make a m) =
    (ahead_of core (at_place core list p) i ≡ ahead.Spawn) × (a ≡ length (at_place core list p).actors) × (method_waiting (at_place core list (suc p)) a 0 ≡ Some m)
Does core list p i (deed.New a e) =
    (ahead_of core (at_place core list p) i ≡ ahead.Task) × MadeThere (at_place core list p) (at_place core list (suc p)) a e
Does core list p i (deed.Touch x) = access core (at_place core list p) i ≡ Some x

-- The event at place p does this, and the clock is the clock of this event.
pub record EventAt (core : CoreData) (list : List ℕ) (p : ℕ) (t : RunEvent) : Type 0 where
  pub event : Event core list p t.actor
  pub does : Does core list p t.actor t.deed
  pub clock : Clocks core list p t.clock

-- All events of the run that do one of these things, in order.
pub record AllEvents (core : CoreData) (list : List ℕ) (events : List RunEvent) : Type 0 where
  pub each : Each (λ k t. (p : ℕ) × (t.place ≡ suc p) × EventAt core list p t) events
  pub order : (k m : ℕ) (t u : RunEvent) → k < m → slice_get events k ≡ Some t → slice_get events m ≡ Some u → t.place < u.place
  pub all : (p i : ℕ) (d : Deed) → Event core list p i → Does core list p i d → (k : ℕ) × (t : RunEvent) × (slice_get events k ≡ Some t) × (t.place ≡ suc p)

-- The accesses among the events, as `pc_trace` has them.
abbrev pub touches_with : RunEvent → Deed → List Touch → List Touch
touches_with t (deed.Touch x) rest = record { place = t.place; actor = t.actor; address = x.address; field = x.field; write = x.write; clock = t.clock } ∷ rest
touches_with t (deed.Take m sent) rest = rest
touches_with t (deed.Send r m) rest = rest
touches_with t (deed.Make a m) rest = rest
touches_with t (deed.New a e) rest = rest

abbrev pub touches_in : List RunEvent → List Touch
touches_in [] = []
touches_in (t ∷ ts) = touches_with t t.deed (touches_in ts)
