-- The kept clocks at the start of a run, and after a turn that is skipped.
use Rattle.std.specs.Prelude.{◌≡◌, ◌<◌, ◌≤◌, ℕ, zero, suc, ◌+◌, List, [], ◌∷◌, length, Option, Some, None, slice_get, refl}
use Rattle.std.proofs.{Common.{ap, sym, subst, ◌∙◌, arith}, lemmas.Option.{same_Some, none-some}}
use Rattle.pc_core.specs.CoreData.{CoreData}
use Rattle.pc_semantics.specs.{declared.outcome.Outcome.TheVariants.{Moved, Skipped}, Configurations.{Configuration, main_create, start_of, start}, Step.outcomes}
use Rattle.pc_clocks.specs.{declared.seat.Seat.Seat, Seats.number}
use Rattle.pc_events.specs.{Before.{at_place, Event, taken_before, waiting_for}, Counting.{Counts, PastOf, PostOf}}
use Rattle.pc_events.proofs.{Totals.resting, Pasts.{counts_none, past_kept, post_kept}}
use Rattle.pc_trace.specs.Keeps.{LetterKeeps, SeatKeeps, Keeps, first_seats}

-- ---- the start

no_number : (a : ℕ) → number [] a ≡ 0
no_number zero = refl
no_number (suc a) = refl

none_below : (e : ℕ) → e < 0 → ⊥
none_below e l = omega (arith, l)

-- A seat at the start.
record First (c : Configuration) (a : ℕ) (s : Seat) : Type 0 where
  clock : s.clock ≡ []
  waits : length s.letters ≡ waiting_for c a
  letters : (n : ℕ) (l : List ℕ) → slice_get s.letters n ≡ Some l → l ≡ []

abbrev no_letters : List (List ℕ)
no_letters = []

abbrev empty_letters : List (List ℕ)
empty_letters = [] ∷ []

one_letter : (n : ℕ) (l : List ℕ) → slice_get no_letters n ≡ Some l → l ≡ []
one_letter n l e = absurd (none-some l e)

empty_letter : (n : ℕ) (l : List ℕ) → slice_get empty_letters n ≡ Some l → l ≡ []
empty_letter zero l e = sym (same_Some [] l e)
empty_letter (suc n) l e = absurd (none-some l e)

first_seat : (core : CoreData) (o : Option (ℕ × ℕ)) (a : ℕ) (s : Seat) → slice_get (first_seats (length (start_of core o).actors)) a ≡ Some s → First (start_of core o) a s
first_seat core None a s e = absurd (none-some s e)
first_seat core (Some m) zero s e =
    subst (First (start_of core (Some m)) 0) (same_Some (record { clock = []; letters = [] }) s e) (record { clock = refl; waits = refl; letters = one_letter })
first_seat core (Some m) (suc zero) s e =
    subst (First (start_of core (Some m)) 1) (same_Some (record { clock = []; letters = [] ∷ [] }) s e) (record { clock = refl; waits = refl; letters = empty_letter })
first_seat core (Some m) (suc (suc a)) s e = absurd (none-some s e)

first_count : (core : CoreData) (o : Option (ℕ × ℕ)) → length (first_seats (length (start_of core o).actors)) ≡ length (start_of core o).actors
first_count core None = refl
first_count core (Some m) = refl

few_first : (core : CoreData) (o : Option (ℕ × ℕ)) → length (start_of core o).actors ≤ 2
few_first core None = omega arith
few_first core (Some m) = omega arith

pub few_actors_at_start : (core : CoreData) → length (start core).actors ≤ 2
few_actors_at_start core = few_first core (main_create core)

pub keeps_at_start : (core : CoreData) (list : List ℕ) → Keeps core list 0 (first_seats (length (start core).actors))
keeps_at_start core list = record { count = first_count core (main_create core); seat = seat }
  where
    no_width : (n : ℕ) → 0 ≤ n
    no_width n = omega arith

    clock_less : (l : List ℕ) → l ≡ [] → length l ≤ length (at_place core list 0).actors
    clock_less l e = subst (λ (m : List ℕ). length m ≤ length (at_place core list 0).actors) (sym e) (no_width (length (at_place core list 0).actors))

    seat : (a : ℕ) (s : Seat) → slice_get (first_seats (length (start core).actors)) a ≡ Some s → SeatKeeps core list 0 a s
    seat a s e =
        let f = first_seat core (main_create core) a s e in
        record {
          width = clock_less s.clock f.clock;
          past = subst (λ (l : List ℕ). Counts core list 0 (PastOf core list 0 a) (number l)) (sym f.clock) (counts_none core list 0 (PastOf core list 0 a) (number []) no_number (λ q p. none_below p.0 p.1));
          waits = f.waits;
          letter = λ n l g.
              let empty : l ≡ [] = f.letters n l g in
              record {
                width = clock_less l empty;
                post =
                    subst (λ (m : List ℕ). Counts core list 0 (PostOf core list 0 a (taken_before core list 0 a + n)) (number m)) (sym empty)
                    (counts_none core list 0 (PostOf core list 0 a (taken_before core list 0 a + n)) (number []) no_number (λ q p. none_below p.0 p.1));
              };
        }

-- ---- a turn that is skipped

skipped_moved : Skipped ≡ Moved → ⊥
skipped_moved e = cc

pub keeps_rested : (core : CoreData) (list : List ℕ) (k : ℕ) (seats : List Seat) → slice_get (outcomes core list) k ≡ Some Skipped → Keeps core list k seats → Keeps core list (suc k) seats
keeps_rested core list k seats e h = record { count = h.count ∙ sym (ap (λ (c : Configuration). length c.actors) (resting core list k e).same); seat = seat }
  where
    no_event : (a : ℕ) → Event core list k a → ⊥
    no_event a v = skipped_moved (same_Some Skipped Moved (sym e ∙ v.moved))

    wide : (n : ℕ) → n ≤ length (at_place core list k).actors → n ≤ length (at_place core list (suc k)).actors
    wide n l = subst (λ (c : Configuration). n ≤ length c.actors) (sym (resting core list k e).same) l

    seat : (a : ℕ) (s : Seat) → slice_get seats a ≡ Some s → SeatKeeps core list (suc k) a s
    seat a s g =
        let r = resting core list k e in
        let o : SeatKeeps core list k a s = h.seat a s g in
        record {
          width = wide (length s.clock) o.width;
          past = past_kept core list k a (no_event a) (number s.clock) o.past;
          waits = o.waits ∙ ap (λ (c : Configuration). waiting_for c a) (sym r.same);
          letter = λ n l i.
              let x = o.letter n l i in
              subst (λ (m : ℕ). LetterKeeps core list (suc k) a (m + n) l) (sym (r.counts a)) (record {
                width = wide (length l) x.width;
                post = post_kept core list k a (taken_before core list k a + n) (λ p. no_event p.sender p.puts) (number l) x.post;
              });
        }
