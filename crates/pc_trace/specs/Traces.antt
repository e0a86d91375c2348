-- What is reported of a run: its accesses with their clocks, and whether they are ordered.
use Rattle.std.specs.Prelude.{◌≡◌, ◌<◌, ◌≤◌, ℕ, suc, List, length, Some, None, slice_get}
use Rattle.pc_base.specs.Lists.{Each}
use Rattle.pc_core.specs.CoreData.{CoreData}
use Rattle.pc_semantics.specs.{Ahead.ahead_of, declared.access.Access.Access, Step.{after, outcomes}, Safety.access, Text.end_of}
use Rattle.pc_events.specs.{Before.{at_place, Event, Before}, Clock.{Clocks, Conflict}}
use Rattle.pc_trace.specs.{declared.touch.Touch.Touch, declared.touch.Verdict.Verdict}
use Rattle.pc_semantics.specs.declared.ahead.Ahead.TheVariants as ahead
use Rattle.pc_semantics.specs.declared.outcome.Outcome.TheVariants as outcome
use Rattle.pc_trace.specs.declared.touch.Verdict.TheVariants as verdict

-- the greatest number of actors that a clock may have a number for
abbrev pub actor_limit : ℕ
actor_limit = 64

-- The access is the one of the event at place p, and the clock is the clock of this event.
pub record TouchAt (core : CoreData) (list : List ℕ) (p : ℕ) (t : Touch) : Type 0 where
  pub event : Event core list p t.actor
  pub touches : access core (at_place core list p) t.actor ≡ Some (record { address = t.address; field = t.field; write = t.write })
  pub clock : Clocks core list p t.clock

-- All accesses of the run, in order.
pub record AllTouches (core : CoreData) (list : List ℕ) (touches : List Touch) : Type 0 where
  pub each : Each (λ k t. (p : ℕ) × (t.place ≡ suc p) × TouchAt core list p t) touches
  pub order : (k m : ℕ) (t u : Touch) → k < m → slice_get touches k ≡ Some t → slice_get touches m ≡ Some u → t.place < u.place
  pub all : (p i : ℕ) (x : Access) → Event core list p i → access core (at_place core list p) i ≡ Some x → (k : ℕ) × (t : Touch) × (slice_get touches k ≡ Some t) × (t.place ≡ suc p)

-- ---- the verdict

-- The earlier event q conflicts with p, and does not come before it.
pub record Unordered (core : CoreData) (list : List ℕ) (q p : ℕ) : Type 0 where
  pub earlier : q < p
  pub conflict : Conflict core list q p
  pub not_before : Before core list q p → ⊥

-- All events after q and earlier than p that conflict with p come before it.
abbrev pub OrderedBetween : CoreData → List ℕ → (from to : ℕ) → Type 0
OrderedBetween core list q p = (r : ℕ) → q < r → r < p → Conflict core list r p → Before core list r p

-- Conflicting events earlier than p are ordered.
abbrev pub OrderedUpTo : CoreData → List ℕ → ℕ → Type 0
OrderedUpTo core list p = (q r : ℕ) → q < r → r < p → Conflict core list q r → Before core list q r

-- Nothing is unordered; or p is the first event that is not ordered with some earlier one, and q is the latest of
-- those.
abbrev pub VerdictIs : CoreData → List ℕ → Verdict → Type 0
VerdictIs core list verdict.Ordered = (q p : ℕ) → q < p → Conflict core list q p → Before core list q p
VerdictIs core list (verdict.Conflict first second) =
    (q : ℕ) × (p : ℕ) × (first ≡ suc q) × (second ≡ suc p) × Unordered core list q p × OrderedUpTo core list p × OrderedBetween core list q p

-- ---- the end of a trace

-- No step ended the run, and it made no more actors than a clock may have numbers for.
pub record RanOn (core : CoreData) (list : List ℕ) : Type 0 where
  pub goes_on : end_of (outcomes core list) ≡ None
  pub few : length (after core list).actors ≤ actor_limit

-- The step at this place makes an actor, and there are as many actors as there may be.
pub record TooManyAt (core : CoreData) (list : List ℕ) (n : ℕ) : Type 0 where
  pub p : ℕ
  pub i : ℕ
  pub place : n ≡ suc p
  pub event : Event core list p i
  pub spawns : ahead_of core (at_place core list p) i ≡ ahead.Spawn
  pub full : length (at_place core list p).actors ≡ actor_limit

-- The run ends at this place, and made no more actors than there may be.
abbrev pub TooLongAt : CoreData → List ℕ → ℕ → Type 0
TooLongAt core list n = (end_of (outcomes core list) ≡ Some (n, outcome.TooLong)) × (length (after core list).actors ≤ actor_limit)
