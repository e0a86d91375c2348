-- After an event, the clocks still count what they should.
use Rattle.std.specs.Prelude.{◌≡◌, ◌≢◌, ◌<◌, ◌≤◌, ℕ, zero, suc, ◌+◌, true, false, List, [], ◌∷◌, ◌++◌, length, drop, Option, Some, slice_get, IfSome, refl}
use Rattle.std.proofs.{Common.{inl, inr, ap, sym, subst, ◌∙◌, arith}, lemmas.Option.{same_Some, none-some}, lemmas.Bool.Decides.{eqb_tells, leb_tells}}
use Rattle.pc_base.proofs.Gets.{get_below, get_within, get_front, get_push, get_drop}
use Rattle.pc_core.specs.CoreData.{CoreData}
use Rattle.pc_semantics.specs.{declared.outcome.Outcome.TheVariants.Moved, Configurations.Configuration, Step.outcomes, declared.ahead.Ahead.Ahead, Ahead.ahead_of}
use Rattle.pc_semantics.specs.declared.ahead.Ahead.TheVariants as ahead
use Rattle.pc_clocks.specs.{declared.seat.Seat.Seat, Seats.{number, clock_in, clock_of, Advanced, ChangedAt}}
use Rattle.pc_events.specs.{Before.{at_place, Event, is_take, receiver_by, receiver_of, taken_before, waiting_of, waiting_for}, Counting.{Live, Counts, AtOrBefore, total, PastOf, PostOf}}
use Rattle.pc_events.proofs.{Boxes.{Boxes, none_behind}, Events.one_actor, Totals.{Moving, moving, taken_own, taken_other, taken_none, actors_by, actors_rise}, Pasts.{Taken, counts_same, counts_none, counts_event, own_past, own_post, past_kept, post_kept}}
use Rattle.pc_trace.specs.{Turns.{Acts, Receives, PostsMessage, Born, FollowsEvent}, Keeps.{LetterKeeps, SeatKeeps, Keeps}}

-- The kept clocks after an event, and the one of its actor.
pub record Behind (core : CoreData) (list : List ℕ) (k i : ℕ) (seats : List Seat) : Type 0 where
  pub keeps : Keeps core list (suc k) seats
  pub width : length (clock_of seats i) ≡ length (at_place core list k).actors
  pub clock : Counts core list (suc k) (AtOrBefore core list k) (number (clock_of seats i))

no_number : (a : ℕ) → number [] a ≡ 0
no_number zero = refl
no_number (suc a) = refl

less_more : (x y z : ℕ) → x ≤ y → y ≤ z → x ≤ z
less_more x y z p q = omega (arith, p, q)

plus_none : (n : ℕ) → n + 0 ≡ n
plus_none n = omega arith

self_less : (n : ℕ) → n < n → ⊥
self_less n l = omega (arith, l)

module _ (core : CoreData) (list : List ℕ) (k i : ℕ) (live : Live core list k) (ev : Event core list k i) where
  abbrev here : Configuration
  here = at_place core list k

  abbrev next : Configuration
  next = at_place core list (suc k)

  abbrev kind : Ahead
  kind = ahead_of core here i

  moves : Moving core list k i
  moves = moving core list k i ev

  -- ---- the actor's clock

  module _ (s : Seat) (keeps : SeatKeeps core list k i s) (clock : List ℕ) where
    -- It takes no message.
    acted_clock : (kind ≡ ahead.Take → ⊥) → Advanced (length here.actors) i s.clock [] clock → Counts core list (suc k) (AtOrBefore core list k) (number clock)
    acted_clock never a =
        counts_event core list k i ev (number s.clock) (number []) keeps.past (counts_none core list k (Taken core list k i) (number []) no_number (λ q t. never t.0)) (number clock) a.own a.others

    -- It takes a message.
    received_clock : kind ≡ ahead.Take → (l : List ℕ) → slice_get s.letters 0 ≡ Some l → Advanced (length here.actors) i s.clock l clock → Counts core list (suc k) (AtOrBefore core list k) (number clock)
    received_clock is l first a =
        counts_event core list k i ev (number s.clock) (number l) keeps.past
        (counts_same core list k (PostOf core list k i (taken_before core list k i)) (Taken core list k i) (number l) (
        subst (λ (n : ℕ). Counts core list k (PostOf core list k i n) (number l)) (plus_none (taken_before core list k i)) (keeps.letter 0 l first).post
        ) (λ q m p. (is, p)) (λ q m t. t.1))
        (number clock) a.own a.others

  -- ---- what stays

  module _ (more : length here.actors ≤ length next.actors) where
    letter_kept : (a n : ℕ) (l : List ℕ) → n < total core list k a → LetterKeeps core list k a n l → LetterKeeps core list (suc k) a n l
    letter_kept a n l below h = record {
      width = less_more _ _ _ h.width more;
      post = post_kept core list k a n (λ p. self_less n (subst (λ (m : ℕ). n < m) (sym p.number) below)) (number l) h.post;
    }

    -- One of the letters that waited has a number below the total.
    waited : (a : ℕ) (s : Seat) → SeatKeeps core list k a s → (n : ℕ) (l : List ℕ) → slice_get s.letters n ≡ Some l → taken_before core list k a + n < total core list k a
    waited a s h n l e = let b = get_below s.letters n l e in let w = h.waits in omega (arith, b, w)

    old_letters : (a : ℕ) (s : Seat) → SeatKeeps core list k a s → taken_before core list (suc k) a ≡ taken_before core list k a → (n : ℕ) (l : List ℕ) → slice_get s.letters n ≡ Some l → LetterKeeps core list (suc k) a (taken_before core list (suc k) a + n) l
    old_letters a s h same n l e =
        subst (λ (m : ℕ). LetterKeeps core list (suc k) a (m + n) l) (sym same) (letter_kept a (taken_before core list k a + n) l (waited a s h n l e) (h.letter n l e))

    -- The seat of another actor whose mailbox stays as it is.
    other_seat : (a : ℕ) (s : Seat) → a ≢ i → waiting_for next a ≡ waiting_for here a → SeatKeeps core list k a s
        → SeatKeeps core list (suc k) a s
    other_seat a s n same h = record {
      width = less_more _ _ _ h.width more;
      past = past_kept core list k a (λ e. n (one_actor core list k a i e ev)) (number s.clock) h.past;
      waits = h.waits ∙ sym same;
      letter = old_letters a s h (taken_other core list k i a moves n);
    }

    -- The actor's own seat, with its new clock.
    own_seat : (s : Seat) → length s.clock ≡ length here.actors → Counts core list (suc k) (AtOrBefore core list k) (number s.clock) → length s.letters ≡ waiting_for next i
        → ((n : ℕ) (l : List ℕ) → slice_get s.letters n ≡ Some l → LetterKeeps core list (suc k) i (taken_before core list (suc k) i + n) l) → SeatKeeps core list (suc k) i s
    own_seat s width clock waits letter = record {
      width = subst (λ (n : ℕ). n ≤ length next.actors) (sym width) more;
      past = own_past core list k i ev (number s.clock) clock;
      waits = waits;
      letter = letter;
    }

    -- The message that is put.
    new_letter : (r : ℕ) (l : List ℕ) → receiver_of core here i ≡ Some r → length l ≡ length here.actors → Counts core list (suc k) (AtOrBefore core list k) (number l) → LetterKeeps core list (suc k) r (total core list k r) l
    new_letter r l to width clock = record {
      width = subst (λ (n : ℕ). n ≤ length next.actors) (sym width) more;
      post = own_post core list k i r live ev to (number l) clock;
    }

  -- ---- the kinds

  live_next : Live core list (suc k)
  live_next m b = elim (leb_tells k m) [ inl s ↦ let c = s.1 in let same : m ≡ k = omega (arith, b, c) in inl (subst (λ (z : ℕ). slice_get (outcomes core list) z ≡ Some Moved) (sym same) ev.moved) | inr s ↦ live m s.1 ]

  more_actors : length here.actors ≤ length next.actors
  more_actors = actors_by here next i kind moves.boxes

  -- How two seats at one place are related, before and after a change there.
  abbrev Pair : List Seat → List Seat → ℕ → (Seat → Seat → Type 0) → Type 0
  Pair old new r R = (s : Seat) × (t : Seat) × (slice_get old r ≡ Some s) × (slice_get new r ≡ Some t) × R s t

  pair : (old new : List Seat) (r : ℕ) (R : Seat → Seat → Type 0) → r < length old → ChangedAt old new r R → Pair old new r R
  pair old new r R b c =
      let u = get_within old r b in
      let v = get_within new r (subst (λ (n : ℕ). r < n) (sym c.count) b) in
      (u.0, v.0, u.1, v.1, c.here u.0 v.0 u.1 v.1)

  -- A seat between the actor's own change and that of another mailbox.
  pub record Mid (a : ℕ) (m : Seat) : Type 0 where
    pub width : length m.clock ≤ length next.actors
    pub past : Counts core list (suc k) (PastOf core list (suc k) a) (number m.clock)
    pub waits : length m.letters ≡ waiting_for here a
    pub letter : (n : ℕ) (l : List ℕ) → slice_get m.letters n ≡ Some l → LetterKeeps core list (suc k) a (taken_before core list (suc k) a + n) l

  module _ (old : List Seat) (keeps : Keeps core list k old) where
    there : i < length old
    there = subst (λ (n : ℕ). i < n) (sym keeps.count) moves.there

    module _ (mid : List Seat) (never : kind ≡ ahead.Take → ⊥) (none : (a : ℕ) → taken_before core list (suc k) a ≡ taken_before core list k a) (acts : Acts (length here.actors) i old mid) where
      own : Pair old mid i (λ s t. Advanced (length here.actors) i s.clock [] t.clock × (t.letters ≡ s.letters))
      own = pair old mid i _ there acts

      own_clock : Counts core list (suc k) (AtOrBefore core list k) (number own.1.clock)
      own_clock = acted_clock own.0 (keeps.seat i own.0 own.2) own.1.clock never own.4.0

      mid_clock : clock_of mid i ≡ own.1.clock
      mid_clock = ap clock_in own.3

      mid_width : length (clock_of mid i) ≡ length here.actors
      mid_width = ap (λ (l : List ℕ). length l) mid_clock ∙ own.4.0.width

      mid_counts : Counts core list (suc k) (AtOrBefore core list k) (number (clock_of mid i))
      mid_counts = subst (λ (l : List ℕ). Counts core list (suc k) (AtOrBefore core list k) (number l)) (sym mid_clock) own_clock

      own_mid : Mid i own.1
      own_mid =
          let h = keeps.seat i own.0 own.2 in
          record {
            width = subst (λ (n : ℕ). n ≤ length next.actors) (sym own.4.0.width) more_actors;
            past = own_past core list k i ev (number own.1.clock) own_clock;
            waits = ap (λ (ls : List (List ℕ)). length ls) own.4.1 ∙ h.waits;
            letter = λ n l e. old_letters more_actors i own.0 h (none i) n l (ap (λ (ls : List (List ℕ)). slice_get ls n) (sym own.4.1) ∙ e);
          }

      other_mid : (a : ℕ) (m : Seat) → a ≢ i → SeatKeeps core list k a m → Mid a m
      other_mid a m n h = record {
        width = less_more _ _ _ h.width more_actors;
        past = past_kept core list k a (λ e. n (one_actor core list k a i e ev)) (number m.clock) h.past;
        waits = h.waits;
        letter = old_letters more_actors a m h (none a);
      }

      each_mid : (a : ℕ) (m : Seat) → slice_get mid a ≡ Some m → Mid a m
      each_mid a m e =
          elim (eqb_tells a i) [
            | inl s ↦ subst (λ (z : ℕ). Mid z m) (sym s.1) (subst (Mid i) (same_Some own.1 m (sym own.3 ∙ ap (slice_get mid) (sym s.1) ∙ e)) own_mid)
            | inr s ↦ other_mid a m s.1 (keeps.seat a m (sym (acts.others a s.1) ∙ e))
          ]

      mid_seat : (a : ℕ) (m : Seat) → Mid a m → waiting_for next a ≡ waiting_for here a → SeatKeeps core list (suc k) a m
      mid_seat a m h same = record { width = h.width; past = h.past; waits = h.waits ∙ sym same; letter = h.letter }

      mid_count : length mid ≡ length here.actors
      mid_count = acts.count ∙ keeps.count

      -- ---- a task

      task_behind : (length next.actors ≡ length here.actors) → ((a : ℕ) → waiting_for next a ≡ waiting_for here a) → Behind core list k i mid
      task_behind count same = record {
        keeps = record { count = mid_count ∙ sym count; seat = λ a m e. mid_seat a m (each_mid a m e) (same a) };
        width = mid_width;
        clock = mid_counts;
      }

      -- ---- a message

      module _ (new : List Seat) (r : ℕ) (to : receiver_of core here i ≡ Some r) (count : length next.actors ≡ length here.actors) (b : r < length here.actors) (one : waiting_for next r ≡ suc (waiting_for here r)) (rest : (a : ℕ) → a ≢ r → waiting_for next a ≡ waiting_for here a) (posts : PostsMessage i r mid new) where
        put : Pair mid new r (λ s t. (t.clock ≡ s.clock) × (t.letters ≡ s.letters ++ clock_of mid i ∷ []))
        put = pair mid new r _ (subst (λ (n : ℕ). r < n) (sym mid_count) b) posts

        put_mid : Mid r put.0
        put_mid = each_mid r put.0 put.2

        put_letter : (n : ℕ) (l : List ℕ) → slice_get (put.0.letters ++ clock_of mid i ∷ []) n ≡ Some l → LetterKeeps core list (suc k) r (taken_before core list (suc k) r + n) l
        put_letter n l e =
            elim (get_push put.0.letters (clock_of mid i) n l e) [
              | inl x ↦ put_mid.letter n l x
              | inr x ↦
                  let number_is : taken_before core list (suc k) r + n ≡ total core list k r =
                  ap (λ (m : ℕ). m + n) (none r) ∙ ap (λ (m : ℕ). taken_before core list k r + m) (x.0 ∙ put_mid.waits)
                  in
                  subst (λ (m : ℕ). LetterKeeps core list (suc k) r m l) (sym number_is) (subst (LetterKeeps core list (suc k) r (total core list k r)) x.1 (new_letter more_actors r (clock_of mid i) to mid_width mid_counts))
            ]

        put_seat : SeatKeeps core list (suc k) r put.1
        put_seat = record {
          width = subst (λ (l : List ℕ). length l ≤ length next.actors) (sym put.4.0) put_mid.width;
          past = subst (λ (l : List ℕ). Counts core list (suc k) (PastOf core list (suc k) r) (number l)) (sym put.4.0) put_mid.past;
          waits = ap (λ (ls : List (List ℕ)). length ls) put.4.1 ∙ one_longer put.0.letters (clock_of mid i) ∙ ap suc put_mid.waits ∙ sym one;
          letter = λ n l e. put_letter n l (ap (λ (ls : List (List ℕ)). slice_get ls n) (sym put.4.1) ∙ e);
        }
          where
            one_longer : (ls : List (List ℕ)) (l : List ℕ) → length (ls ++ l ∷ []) ≡ suc (length ls)
            one_longer [] l = refl
            one_longer (x ∷ xs) l = ap suc (one_longer xs l)

        send_clock : clock_of new i ≡ clock_of mid i
        send_clock =
            elim (eqb_tells i r) [
              | inl s ↦ ap (clock_of new) s.1 ∙ ap clock_in put.3 ∙ put.4.0 ∙ sym (ap (clock_of mid) s.1 ∙ ap clock_in put.2)
              | inr s ↦ ap clock_in (posts.others i s.1)
            ]

        send_seat : (a : ℕ) (u : Seat) → slice_get new a ≡ Some u → SeatKeeps core list (suc k) a u
        send_seat a u e =
            elim (eqb_tells a r) [
              | inl s ↦ subst (λ (z : ℕ). SeatKeeps core list (suc k) z u) (sym s.1) (subst (SeatKeeps core list (suc k) r) (same_Some put.1 u (sym put.3 ∙ ap (slice_get new) (sym s.1) ∙ e)) put_seat)
              | inr s ↦ mid_seat a u (each_mid a u (sym (posts.others a s.1) ∙ e)) (rest a s.1)
            ]

        send_behind : Behind core list k i new
        send_behind = record {
          keeps = record { count = posts.count ∙ mid_count ∙ sym count; seat = send_seat };
          width = ap (λ (l : List ℕ). length l) send_clock ∙ mid_width;
          clock = subst (λ (l : List ℕ). Counts core list (suc k) (AtOrBefore core list k) (number l)) (sym send_clock) mid_counts;
        }

      -- ---- a new actor

      module _ (new : List Seat) (to : receiver_of core here i ≡ Some (length here.actors)) (count : length next.actors ≡ suc (length here.actors)) (one : waiting_for next (length here.actors) ≡ 1) (rest : (a : ℕ) → a ≢ length here.actors → waiting_for next a ≡ waiting_for here a) (born : Born i mid new) where
        r : ℕ
        r = length here.actors

        child : Seat
        child = record { clock = []; letters = clock_of mid i ∷ [] }

        -- Nobody did anything under this number.
        no_event : (e : ℕ) → e < suc k → Event core list e (length here.actors) → ⊥
        no_event e l v =
            let le : e ≤ k = omega (arith, l) in
            outside (length here.actors) (length (at_place core list e).actors) (moving core list e (length here.actors) v).there (actors_rise core list e k live le)
          where
            outside : (n m : ℕ) → n < m → m ≤ n → ⊥
            outside n m p q = omega (arith, p, q)

        nobody_waits : waiting_for here (length here.actors) ≡ 0
        nobody_waits = ap waiting_of (none_behind here.actors (length here.actors) (no_less (length here.actors)))
          where
            no_less : (n : ℕ) → n ≤ n
            no_less n = omega arith

        child_letter : (n : ℕ) (l : List ℕ) → slice_get (clock_of mid i ∷ []) n ≡ Some l → LetterKeeps core list (suc k) (length here.actors) (taken_before core list (suc k) (length here.actors) + n) l
        child_letter zero l e =
            let number_is : taken_before core list (suc k) (length here.actors) + 0 ≡ total core list k (length here.actors) =
            ap (λ (m : ℕ). m + 0) (none (length here.actors)) ∙ ap (λ (m : ℕ). taken_before core list k (length here.actors) + m) (sym nobody_waits)
            in
            subst (λ (m : ℕ). LetterKeeps core list (suc k) (length here.actors) m l) (sym number_is)
            (subst (LetterKeeps core list (suc k) (length here.actors) (total core list k (length here.actors))) (same_Some (clock_of mid i) l e) (new_letter more_actors (length here.actors) (clock_of mid i) to mid_width mid_counts))
        child_letter (suc n) l e = absurd (none-some l e)

        child_seat : SeatKeeps core list (suc k) (length here.actors) (record { clock = []; letters = clock_of mid i ∷ [] })
        child_seat = record {
          width = omega arith;
          past = counts_none core list (suc k) (PastOf core list (suc k) (length here.actors)) (number []) no_number (λ q p. no_event p.0 p.1 p.2);
          waits = sym one;
          letter = child_letter;
        }

        spawn_seat : (a : ℕ) (u : Seat) → slice_get (mid ++ record { clock = []; letters = clock_of mid i ∷ [] } ∷ []) a ≡ Some u → SeatKeeps core list (suc k) a u
        spawn_seat a u e =
            elim (get_push mid (record { clock = []; letters = clock_of mid i ∷ [] }) a u e) [
              | inl x ↦
                  let b = get_below mid a u x in
                  mid_seat a u (each_mid a u x) (rest a (λ z. self_less (length here.actors) (subst (λ (n : ℕ). n < length here.actors) z (subst (λ (n : ℕ). a < n) mid_count b))))
              | inr x ↦ subst (λ (z : ℕ). SeatKeeps core list (suc k) z u) (sym (x.0 ∙ mid_count)) (subst (SeatKeeps core list (suc k) (length here.actors)) x.1 child_seat)
            ]

        spawn_clock : clock_of new i ≡ clock_of mid i
        spawn_clock = ap (λ (l : List Seat). clock_of l i) born ∙ ap clock_in (get_front mid (record { clock = []; letters = clock_of mid i ∷ [] } ∷ []) i own.1 own.3) ∙ sym mid_clock

        spawn_behind : Behind core list k i new
        spawn_behind = record {
          keeps = record {
            count = ap (λ (l : List Seat). length l) born ∙ one_longer mid _ ∙ ap suc mid_count ∙ sym count;
            seat = λ a u e. spawn_seat a u (ap (λ (l : List Seat). slice_get l a) (sym born) ∙ e);
          };
          width = ap (λ (l : List ℕ). length l) spawn_clock ∙ mid_width;
          clock = subst (λ (l : List ℕ). Counts core list (suc k) (AtOrBefore core list k) (number l)) (sym spawn_clock) mid_counts;
        }
          where
            one_longer : (ls : List Seat) (l : Seat) → length (ls ++ l ∷ []) ≡ suc (length ls)
            one_longer [] l = refl
            one_longer (x ∷ xs) l = ap suc (one_longer xs l)

    -- ---- a message that is taken

    module _ (new : List Seat) (is : kind ≡ ahead.Take) (count : length next.actors ≡ length here.actors) (one : waiting_for here i ≡ suc (waiting_for next i)) (rest : (a : ℕ) → a ≢ i → waiting_for next a ≡ waiting_for here a) (receives : Receives (length here.actors) i old new) where
      got : Pair old new i (λ s t. IfSome (slice_get s.letters 0) (λ l. Advanced (length here.actors) i s.clock l t.clock) × (t.letters ≡ drop 1 s.letters))
      got = pair old new i _ there receives

      got_keeps : SeatKeeps core list k i got.0
      got_keeps = keeps.seat i got.0 got.2

      some_letter : (ls : List (List ℕ)) (n : ℕ) → length ls ≡ suc n → (l : List ℕ) × (slice_get ls 0 ≡ Some l) × (length (drop 1 ls) ≡ n)
      some_letter [] n e = absurd (omega (arith, e))
      some_letter (l ∷ ls) n e = (l, refl, omega (arith, e))

      letter : (l : List ℕ) × (slice_get got.0.letters 0 ≡ Some l) × (length (drop 1 got.0.letters) ≡ waiting_for next i)
      letter = some_letter got.0.letters (waiting_for next i) (got_keeps.waits ∙ one)

      got_advanced : Advanced (length here.actors) i got.0.clock letter.0 got.1.clock
      got_advanced = subst (λ (o : Option (List ℕ)). IfSome o (λ l. Advanced (length here.actors) i got.0.clock l got.1.clock)) letter.1 got.4.0

      got_clock : Counts core list (suc k) (AtOrBefore core list k) (number got.1.clock)
      got_clock = received_clock got.0 got_keeps got.1.clock is letter.0 letter.1 got_advanced

      got_letters : (n : ℕ) (l : List ℕ) → slice_get got.1.letters n ≡ Some l → LetterKeeps core list (suc k) i (taken_before core list (suc k) i + n) l
      got_letters n l e =
          let old_place : slice_get got.0.letters (1 + n) ≡ Some l = sym (get_drop got.0.letters 1 n) ∙ ap (λ (ls : List (List ℕ)). slice_get ls n) (sym got.4.1) ∙ e in
          let same : taken_before core list (suc k) i + n ≡ taken_before core list k i + (1 + n) = ap (λ (m : ℕ). m + n) (taken_own core list k i moves is) ∙ shifted (taken_before core list k i) n in
          subst (λ (m : ℕ). LetterKeeps core list (suc k) i m l) (sym same) (letter_kept more_actors i (taken_before core list k i + (1 + n)) l (waited more_actors i got.0 got_keeps (1 + n) l old_place) (got_keeps.letter (1 + n) l old_place))
        where
          shifted : (t n : ℕ) → suc t + n ≡ t + (1 + n)
          shifted t n = omega arith

      got_seat : SeatKeeps core list (suc k) i got.1
      got_seat = own_seat more_actors got.1 got_advanced.width got_clock (ap (λ (ls : List (List ℕ)). length ls) got.4.1 ∙ letter.2) got_letters

      take_seat : (a : ℕ) (u : Seat) → slice_get new a ≡ Some u → SeatKeeps core list (suc k) a u
      take_seat a u e =
          elim (eqb_tells a i) [
            | inl s ↦ subst (λ (z : ℕ). SeatKeeps core list (suc k) z u) (sym s.1) (subst (SeatKeeps core list (suc k) i) (same_Some got.1 u (sym got.3 ∙ ap (slice_get new) (sym s.1) ∙ e)) got_seat)
            | inr s ↦ other_seat more_actors a u s.1 (rest a s.1) (keeps.seat a u (sym (receives.others a s.1) ∙ e))
          ]

      take_behind : Behind core list k i new
      take_behind = record {
        keeps = record { count = receives.count ∙ keeps.count ∙ sym count; seat = take_seat };
        width = ap (λ (o : Option Seat). length (clock_in o)) got.3 ∙ got_advanced.width;
        clock = subst (λ (o : Option Seat). Counts core list (suc k) (AtOrBefore core list k) (number (clock_in o))) (sym got.3) got_clock;
      }

    -- ---- every kind

    not_take : (h : Ahead) → is_take h ≡ false → kind ≡ h → kind ≡ ahead.Take → ⊥
    not_take h e is take = true_false (sym (ap is_take (sym is ∙ take)) ∙ e)
      where
        true_false : true ≡ false → ⊥
        true_false z = cc

    takes_none : (h : Ahead) → is_take h ≡ false → kind ≡ h → (a : ℕ) → taken_before core list (suc k) a ≡ taken_before core list k a
    takes_none h e is a = taken_none core list k i a moves (ap is_take is ∙ e)

    behind_by : (h : Ahead) → kind ≡ h → Boxes here next i h → (new : List Seat) → FollowsEvent h (length here.actors) i old new → Behind core list k i new
    behind_by ahead.Take is b new f = take_behind new is b.0 b.1 b.2 f
    behind_by ahead.Task is b new f = task_behind new (not_take ahead.Task refl is) (takes_none ahead.Task refl is) f b.0 b.1
    behind_by (ahead.Send a) is b new f =
        send_behind f.0 (not_take (ahead.Send a) refl is) (takes_none (ahead.Send a) refl is) f.1 new a (ap (receiver_by here) is) b.0 b.1 b.2 b.3 f.2
    behind_by ahead.Spawn is b new f =
        spawn_behind f.0 (not_take ahead.Spawn refl is) (takes_none ahead.Spawn refl is) f.1 new (ap (receiver_by here) is) b.0 b.1 b.2 f.2
    behind_by ahead.Skipped is b new f = absurd b
    behind_by ahead.Lacks is b new f = absurd b
    behind_by ahead.TooLong is b new f = absurd b

    -- What follows an event keeps what the clocks count.
    pub behind_event : (new : List Seat) → FollowsEvent (ahead_of core here i) (length here.actors) i old new → Behind core list k i new
    behind_event new f = behind_by kind refl moves.boxes new f
