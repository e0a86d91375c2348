-- The events of an actor and the messages of a mailbox, counted, and what a clock counts that is kept along a run.
use Rattle.std.specs.Prelude.{◌≡◌, ◌⊎◌, ◌<◌, ◌≤◌, ℕ, zero, suc, ◌+◌, Bool, false, ◌&&◌, nat_eq, List, Option, Some, None, slice_get}
use Rattle.pc_base.specs.Counts.{one_if}
use Rattle.pc_core.specs.CoreData.{CoreData}
use Rattle.pc_semantics.specs.{declared.outcome.Outcome.Outcome, declared.outcome.Outcome.TheVariants.{Moved, Skipped}, Step.outcomes, Text.is_moved}
use Rattle.pc_events.specs.Before.{at_place, Event, receiver_of, taken_before, waiting_for, Before}

-- ---- runs

-- Each turn before place k moved or was skipped.
abbrev pub Live : CoreData → List ℕ → ℕ → Type 0
Live core list k = (m : ℕ) → m < k → (slice_get (outcomes core list) m ≡ Some Moved) ⊎ (slice_get (outcomes core list) m ≡ Some Skipped)

-- ---- events

abbrev pub has_actor : ℕ → Option ℕ → Bool
has_actor a None = false
has_actor a (Some b) = nat_eq a b

abbrev pub has_moved : Option Outcome → Bool
has_moved None = false
has_moved (Some o) = is_moved o

abbrev pub is_event : CoreData → List ℕ → ℕ → ℕ → Bool
is_event core list a k = has_actor a (slice_get list k) && has_moved (slice_get (outcomes core list) k)

-- How many events of actor a are earlier than place k.
abbrev pub index : CoreData → List ℕ → ℕ → ℕ → ℕ
index core list a zero = 0
index core list a (suc k) = index core list a k + one_if (is_event core list a k)

abbrev pub AtOrBefore : CoreData → List ℕ → ℕ → ℕ → Type 0
AtOrBefore core list p q = (q ≡ p) ⊎ Before core list q p

-- ---- messages

-- How many messages the mailbox of actor r was given before a place: those that were taken and those that still wait.
abbrev pub total : CoreData → List ℕ → ℕ → ℕ → ℕ
total core list k r = taken_before core list k r + waiting_for (at_place core list k) r

-- The event at e puts the message with this number into the mailbox of actor r.
pub record Put (core : CoreData) (list : List ℕ) (e r n : ℕ) : Type 0 where
  pub sender : ℕ
  pub puts : Event core list e sender
  pub to : receiver_of core (at_place core list e) sender ≡ Some r
  pub number : n ≡ total core list e r

-- ---- clocks

-- Before place k, an event of actor a has the property iff it is among the first f a events of that actor.
pub record Counts (core : CoreData) (list : List ℕ) (k : ℕ) (P : ℕ → Type 0) (f : ℕ → ℕ) : Type 0 where
  pub within : (a : ℕ) → f a ≤ index core list a k
  pub inside : (a q : ℕ) → Event core list q a → q < k → P q → index core list a q < f a
  pub outside : (a q : ℕ) → Event core list q a → q < k → index core list a q < f a → P q

-- Event q is one of actor a before place k, or comes before one.
abbrev pub PastOf : CoreData → List ℕ → ℕ → ℕ → ℕ → Type 0
PastOf core list k a q = (e : ℕ) × (e < k) × Event core list e a × AtOrBefore core list e q

-- Event q is the one before place k that put message n into the mailbox of actor r, or comes before it.
abbrev pub PostOf : CoreData → List ℕ → ℕ → ℕ → ℕ → ℕ → Type 0
PostOf core list k r n q = (e : ℕ) × (e < k) × Put core list e r n × AtOrBefore core list e q
