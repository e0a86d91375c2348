-- The meaning of the kept places, and a run under way.
use Rattle.std.specs.Prelude.{◌≡◌, ◌<◌, ◌+◌, ℕ, zero, suc, List, [], ◌∷◌, length, Some, slice_get}
use Rattle.pc_core.specs.CoreData.{CoreData}
use Rattle.pc_semantics.specs.Configurations.{Configuration}
use Rattle.pc_clocks.specs.declared.seat.Seat.{Seat}
use Rattle.pc_events.specs.{Before.{at_place, Event, taken_before, waiting_for}, Counting.Put}
use Rattle.pc_run_events.specs.{Events.{Does, EventAt, touches_in}, declared.events.Deed.Deed, declared.events.RunEvent.RunEvent}
use Rattle.pc_trace.specs.Reached.{Reached}

-- The event at this place, counted from 1 and before place k, put message n into the mailbox of actor r; or none did.
abbrev pub SentBefore : CoreData → List ℕ → (k r n place : ℕ) → Type 0
SentBefore core list k r n zero = (e : ℕ) → e < k → Put core list e r n → ⊥
SentBefore core list k r n (suc e) = (e < k) × Put core list e r n

-- The places of the messages that wait for actor a.
pub record RowKeeps (core : CoreData) (list : List ℕ) (k a : ℕ) (row : List ℕ) : Type 0 where
  pub waits : length row ≡ waiting_for (at_place core list k) a
  pub sent : (n m : ℕ) → slice_get row n ≡ Some m → SentBefore core list k a (taken_before core list k a + n) m

pub record PostsKeep (core : CoreData) (list : List ℕ) (k : ℕ) (posts : List (List ℕ)) : Type 0 where
  pub count : length posts ≡ length (at_place core list k).actors
  pub row : (a : ℕ) (s : List ℕ) → slice_get posts a ≡ Some s → RowKeeps core list k a s

-- At the start: no actors, or the stream and Main, for whom a message waits that no event sent.
abbrev pub first_posts : ℕ → List (List ℕ)
first_posts zero = []
first_posts (suc n) = [] ∷ (0 ∷ []) ∷ []

-- ---- the events so far

-- All events before place n that do something, in order.
pub record Recorded (core : CoreData) (list : List ℕ) (n : ℕ) (events : List RunEvent) : Type 0 where
  pub each : (k : ℕ) (t : RunEvent) → slice_get events k ≡ Some t → (p : ℕ) × (p < n) × (t.place ≡ suc p) × EventAt core list p t
  pub order : (k m : ℕ) (t u : RunEvent) → k < m → slice_get events k ≡ Some t → slice_get events m ≡ Some u → t.place < u.place
  pub all : (p i : ℕ) (d : Deed) → p < n → Event core list p i → Does core list p i d → (k : ℕ) × (t : RunEvent) × (slice_get events k ≡ Some t) × (t.place ≡ suc p)

-- After n turns that did not end the run.
pub record Under (core : CoreData) (list : List ℕ) (n : ℕ) (c : Configuration) (seats : List Seat) (posts : List (List ℕ)) (events : List RunEvent) : Type 0 where
  pub reached : Reached core list n c seats (touches_in events)
  pub kept : PostsKeep core list n posts
  pub recorded : Recorded core list n events
