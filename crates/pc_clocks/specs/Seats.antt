-- Vector clocks of actors and of the messages waiting for them.
use Rattle.std.specs.Prelude.{◌≡◌, ◌≢◌, ℕ, suc, max, List, [], length, get_or, Option, Some, None, slice_get}
use Rattle.pc_clocks.specs.declared.seat.Seat.{Seat}

-- How many events of actor a a clock counts.
abbrev pub number : List ℕ → ℕ → ℕ
number clock a = get_or clock a 0

-- The clock after an event of an actor, of `count` actors: the pointwise maximum of the actor's clock and that of the
-- message it took, plus one for the event itself.
pub record Advanced (count actor : ℕ) (old taken new : List ℕ) : Type 0 where
  pub width : length new ≡ count
  pub own : number new actor ≡ suc (max (number old actor) (number taken actor))
  pub others : (a : ℕ) → a ≢ actor → number new a ≡ max (number old a) (number taken a)

abbrev pub clock_in : Option Seat → List ℕ
clock_in None = []
clock_in (Some s) = s.clock

-- The clock of actor a.
abbrev pub clock_of : List Seat → ℕ → List ℕ
clock_of seats a = clock_in (slice_get seats a)

-- Only the seat at place `i` has changed, and in this way.
pub record ChangedAt (old new : List Seat) (i : ℕ) (R : Seat → Seat → Type 0) : Type 0 where
  pub count : length new ≡ length old
  pub here : (s t : Seat) → slice_get old i ≡ Some s → slice_get new i ≡ Some t → R s t
  pub others : (a : ℕ) → a ≢ i → slice_get new a ≡ slice_get old a
