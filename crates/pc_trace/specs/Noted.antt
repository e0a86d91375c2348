-- The accesses that have been noted so far, and what their clocks count.
use Rattle.std.specs.Prelude.{◌≡◌, ◌<◌, ℕ, suc, List, length, Some, slice_get}
use Rattle.pc_core.specs.CoreData.{CoreData}
use Rattle.pc_semantics.specs.{declared.access.Access.Access, Safety.access}
use Rattle.pc_clocks.specs.Seats.{number}
use Rattle.pc_events.specs.{Before.{at_place, Event}, Counting.{Counts, AtOrBefore}}
use Rattle.pc_trace.specs.declared.touch.Touch.{Touch}

-- The access of the event at place p. Its clock counts this event and the events before it.
pub record NotedAt (core : CoreData) (list : List ℕ) (p : ℕ) (t : Touch) : Type 0 where
  pub event : Event core list p t.actor
  pub touches : access core (at_place core list p) t.actor ≡ Some (record { address = t.address; field = t.field; write = t.write })
  pub width : length t.clock ≡ length (at_place core list p).actors
  pub counts : Counts core list (suc p) (AtOrBefore core list p) (number t.clock)

-- All accesses before place n, in order.
pub record Noted (core : CoreData) (list : List ℕ) (n : ℕ) (touches : List Touch) : Type 0 where
  pub each : (k : ℕ) (t : Touch) → slice_get touches k ≡ Some t → (p : ℕ) × (p < n) × (t.place ≡ suc p) × NotedAt core list p t
  pub order : (k m : ℕ) (t u : Touch) → k < m → slice_get touches k ≡ Some t → slice_get touches m ≡ Some u → t.place < u.place
  pub all : (p i : ℕ) (x : Access) → p < n → Event core list p i → access core (at_place core list p) i ≡ Some x → (k : ℕ) × (t : Touch) × (slice_get touches k ≡ Some t) × (t.place ≡ suc p)
