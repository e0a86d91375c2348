-- What the kept clocks count.
use Rattle.std.specs.Prelude.{◌≡◌, ◌≤◌, ℕ, zero, suc, ◌+◌, List, [], ◌∷◌, length, Some, slice_get}
use Rattle.pc_core.specs.CoreData.{CoreData}
use Rattle.pc_clocks.specs.{declared.seat.Seat.Seat, Seats.number}
use Rattle.pc_events.specs.{Before.{at_place, taken_before, waiting_for}, Counting.{Counts, PastOf, PostOf}}

-- The clock of message n of the mailbox of actor a, at place k.
pub record LetterKeeps (core : CoreData) (list : List ℕ) (k a n : ℕ) (l : List ℕ) : Type 0 where
  pub width : length l ≤ length (at_place core list k).actors
  pub post : Counts core list k (PostOf core list k a n) (number l)

-- The clock of actor a counts its own events and all that come before them; and there is a clock for each message that
-- waits there.
pub record SeatKeeps (core : CoreData) (list : List ℕ) (k a : ℕ) (s : Seat) : Type 0 where
  pub width : length s.clock ≤ length (at_place core list k).actors
  pub past : Counts core list k (PastOf core list k a) (number s.clock)
  pub waits : length s.letters ≡ waiting_for (at_place core list k) a
  pub letter : (n : ℕ) (l : List ℕ) → slice_get s.letters n ≡ Some l → LetterKeeps core list k a (taken_before core list k a + n) l

pub record Keeps (core : CoreData) (list : List ℕ) (k : ℕ) (seats : List Seat) : Type 0 where
  pub count : length seats ≡ length (at_place core list k).actors
  pub seat : (a : ℕ) (s : Seat) → slice_get seats a ≡ Some s → SeatKeeps core list k a s

-- ---- the start: no actors, or the stream and Main, for whom a message waits that no event sent

abbrev pub first_seats : ℕ → List Seat
first_seats zero = []
first_seats (suc n) = record { clock = []; letters = [] } ∷ record { clock = []; letters = [] ∷ [] } ∷ []
