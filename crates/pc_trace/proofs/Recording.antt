-- A run is traced, turn by turn.
use Rattle.std.specs.Prelude.{◌≡◌, ◌⊎◌, ◌<◌, ◌≤◌, ◌^◌, ℕ, zero, suc, ◌+◌, true, false, Bool, List, [], ◌∷◌, ◌++◌, length, Option, Some, None, slice_get, IsSomeAnd}
use Rattle.std.proofs.{Common.{inl, inr, ap, sym, subst, ◌∙◌, arith}, lemmas.Option.{same_Some, none-some}, lemmas.Bool.Decides.leb_tells}
use Rattle.pc_base.specs.Counts.{one_if}
use Rattle.pc_base.proofs.Gets.{get_below, get_within, get_front, get_behind, get_push}
use Rattle.pc_core.specs.CoreData.{CoreData}
use Rattle.pc_semantics.specs.{declared.access.Access.Access, declared.outcome.Outcome.TheVariants.{Moved, Skipped}, Configurations.Configuration, Step.outcomes, Safety.access, declared.ahead.Ahead.Ahead, Ahead.ahead_of}
use Rattle.pc_semantics.specs.declared.ahead.Ahead.TheVariants as ahead
use Rattle.pc_clocks.specs.{declared.seat.Seat.Seat, Seats.number}
use Rattle.pc_events.specs.{Before.{at_place, Event, waiting_for}, Counting.{Counts, AtOrBefore, index, is_event}}
use Rattle.pc_events.proofs.{Boxes.Boxes, Events.one_actor, Totals.moving}
use Rattle.pc_trace.specs.{declared.touch.Touch.Touch, Turns.Ready, Keeps.Keeps, Noted.{NotedAt, Noted}, Reached.noted_with}
use Rattle.pc_machine.specs.Limits.{list_limit}

-- ---- numbers stay small

index_few : (core : CoreData) (list : List ℕ) (a k : ℕ) → index core list a k ≤ k
index_few core list a zero = omega arith
index_few core list a (suc k) = one_more (index core list a k) k (index_few core list a k) (is_event core list a k)
  where
    one_more : (n k : ℕ) → n ≤ k → (b : Bool) → n + one_if b ≤ suc k
    one_more n k l true = omega (arith, l)
    one_more n k l false = omega (arith, l)

small : (m i n : ℕ) → m ≤ i → i ≤ n → n < 4000000 → m + 1 < 2 ^ 64
small m i n a b c = omega (arith, a, b, c)

-- ---- what an event needs

module _ (core : CoreData) (list : List ℕ) (n : ℕ) (few : n < list_limit) (i : ℕ) (ev : Event core list n i) (seats : List Seat) (keeps : Keeps core list n seats) where
  abbrev here : Configuration
  here = at_place core list n

  small_number : (f : ℕ → ℕ) (P : ℕ → Type 0) → Counts core list n P f → f i + 1 < 2 ^ 64
  small_number f P c = small (f i) (index core list i n) n (c.within i) (index_few core list i n) few

  there : i < length here.actors
  there = (moving core list n i ev).there

  own_seat : (s : Seat) × (slice_get seats i ≡ Some s)
  own_seat = get_within seats i (subst (λ (m : ℕ). i < m) (sym keeps.count) there)

  seat_ready : IsSomeAnd (slice_get seats i) (λ s. (length s.clock ≤ length here.actors) × (number s.clock i + 1 < 2 ^ 64))
  seat_ready =
      let s = own_seat in
      let h = keeps.seat i s.0 s.1 in
      subst (λ (o : Option Seat). IsSomeAnd o (λ s. (length s.clock ≤ length here.actors) × (number s.clock i + 1 < 2 ^ 64))) (sym s.1) (h.width, small_number (number s.0.clock) _ h.past)

  some_below : (x y : ℕ) → x ≡ suc y → 0 < x
  some_below x y e = omega (arith, e)

  letter_ready : ahead_of core here i ≡ ahead.Take → IsSomeAnd (slice_get seats i) (λ s. IsSomeAnd (slice_get s.letters 0) (λ l. (length l ≤ length here.actors) × (number l i + 1 < 2 ^ 64)))
  letter_ready is =
      let s = own_seat in
      let h = keeps.seat i s.0 s.1 in
      let b : Boxes here (at_place core list (suc n)) i ahead.Take = subst (λ (k : Ahead). Boxes here (at_place core list (suc n)) i k) is (moving core list n i ev).boxes in
      let l = get_within s.0.letters 0 (some_below (length s.0.letters) (waiting_for (at_place core list (suc n)) i) (h.waits ∙ b.1)) in
      let k = h.letter 0 l.0 l.1 in
      subst (λ (o : Option Seat). IsSomeAnd o (λ s. IsSomeAnd (slice_get s.letters 0) (λ l. (length l ≤ length here.actors) × (number l i + 1 < 2 ^ 64)))) (sym s.1)
      (subst (λ (o : Option (List ℕ)). IsSomeAnd o (λ l. (length l ≤ length here.actors) × (number l i + 1 < 2 ^ 64))) (sym l.1) (k.width, small_number (number l.0) _ k.post))

  receiver_ready : (r : ℕ) → ahead_of core here i ≡ ahead.Send r → r < length seats
  receiver_ready r is =
      let b : Boxes here (at_place core list (suc n)) i (ahead.Send r) = subst (λ (k : Ahead). Boxes here (at_place core list (suc n)) i k) is (moving core list n i ev).boxes in
      subst (λ (m : ℕ). r < m) (sym keeps.count) b.1

  pub ready : Ready (ahead_of core here i) (length here.actors) i seats
  ready = record { there = there; seat = seat_ready; letter = letter_ready; receiver = receiver_ready }

-- ---- accesses

module _ (core : CoreData) (list : List ℕ) (n : ℕ) (touches : List Touch) (noted : Noted core list n touches) where
  further : (p : ℕ) → p < n → p < suc n
  further p l = omega (arith, l)

  split : (p : ℕ) → p < suc n → (p < n) ⊎ (p ≡ n)
  split p l = elim (leb_tells n p) [ inl s ↦ let m = s.1 in inr (omega (arith, l, m)) | inr s ↦ inl s.1 ]

  -- Nothing is touched at place n.
  noted_same : ((i : ℕ) (x : Access) → Event core list n i → access core (at_place core list n) i ≡ Some x → ⊥) → Noted core list (suc n) touches
  noted_same never = record {
    each = λ k t e. let r = noted.each k t e in (r.0, further r.0 r.1, r.2, r.3);
    order = noted.order;
    all = λ p i x l e a.
        elim (split p l) [
          | inl s ↦ noted.all p i x s e a
          | inr s ↦ absurd (never i x (subst (λ (z : ℕ). Event core list z i) s e) (subst (λ (z : ℕ). access core (at_place core list z) i ≡ Some x) s a))
        ];
  }

  module _ (i : ℕ) (ev : Event core list n i) (clock : List ℕ) (width : length clock ≡ length (at_place core list n).actors) (counts : Counts core list (suc n) (AtOrBefore core list n) (number clock)) (x : Access) (touched : access core (at_place core list n) i ≡ Some x) (place : ℕ) (place_is : place ≡ suc n) where
    abbrev fresh : Touch
    fresh = record { place = place; actor = i; address = x.address; field = x.field; write = x.write; clock = clock }

    fresh_right : NotedAt core list n (record { place = place; actor = i; address = x.address; field = x.field; write = x.write; clock = clock })
    fresh_right = record { event = ev; touches = touched; width = width; counts = counts }

    self_next : (n : ℕ) → n < suc n
    self_next n = omega arith

    each_more : (k : ℕ) (t : Touch) → slice_get (touches ++ fresh ∷ []) k ≡ Some t → (p : ℕ) × (p < suc n) × (t.place ≡ suc p) × NotedAt core list p t
    each_more k t e =
        elim (get_push touches fresh k t e) [
          | inl o ↦ let r = noted.each k t o in (r.0, further r.0 r.1, r.2, r.3)
          | inr o ↦ subst (λ (z : Touch). (p : ℕ) × (p < suc n) × (z.place ≡ suc p) × NotedAt core list p z) o.1 (n, self_next n, place_is, fresh_right)
        ]

    order_more : (k m : ℕ) (t u : Touch) → k < m → slice_get (touches ++ fresh ∷ []) k ≡ Some t → slice_get (touches ++ fresh ∷ []) m ≡ Some u → t.place < u.place
    order_more k m t u l e f =
        elim (get_push touches fresh k t e) [
          | inl o ↦
              elim (get_push touches fresh m u f) [
                | inl q ↦ noted.order k m t u l o q
                | inr q ↦ let r = noted.each k t o in subst (λ (z : Touch). t.place < z.place) q.1 (lower t.place place r.0 n r.2 place_is r.1)
              ]
          | inr o ↦
              elim (get_push touches fresh m u f) [
                | inl q ↦ absurd (past_end k m (length touches) l o.0 (get_below touches m u q))
                | inr q ↦ absurd (same_end k m (length touches) l o.0 q.0)
              ]
        ]
      where
        lower : (a b p n : ℕ) → a ≡ suc p → b ≡ suc n → p < n → a < b
        lower a b p n e f l = omega (arith, e, f, l)

        past_end : (k m s : ℕ) → k < m → k ≡ s → m < s → ⊥
        past_end k m s a b c = omega (arith, a, b, c)

        same_end : (k m s : ℕ) → k < m → k ≡ s → m ≡ s → ⊥
        same_end k m s a b c = omega (arith, a, b, c)

    noted_more : Noted core list (suc n) (touches ++ fresh ∷ [])
    noted_more = record {
      each = each_more;
      order = order_more;
      all = λ p j y l e a.
          elim (split p l) [
            | inl s ↦ let r = noted.all p j y s e a in (r.0, r.1, get_front touches (fresh ∷ []) r.0 r.1 r.2, r.3)
            | inr s ↦ (length touches, fresh, get_behind touches fresh [], place_is ∙ ap suc (sym s))
          ];
    }

  -- By what the event touches.
  pub noted_event : (i : ℕ) → Event core list n i → (clock : List ℕ) → length clock ≡ length (at_place core list n).actors → Counts core list (suc n) (AtOrBefore core list n) (number clock) → (o : Option Access) → access core (at_place core list n) i ≡ o → (place : ℕ) → place ≡ suc n
      → Noted core list (suc n) (noted_with o place i clock touches)
  noted_event i ev clock width counts None e place is = noted_same (λ j x v a. none-some x (sym e ∙ subst (λ (z : ℕ). access core (at_place core list n) z ≡ Some x) (one_actor core list n j i v ev) a))
  noted_event i ev clock width counts (Some x) e place is = noted_more i ev clock width counts x e place is

  skipped_moved : Skipped ≡ Moved → ⊥
  skipped_moved z = cc

  pub noted_rest : slice_get (outcomes core list) n ≡ Some Skipped → Noted core list (suc n) touches
  noted_rest e = noted_same (λ i x v a. skipped_moved (same_Some Skipped Moved (sym e ∙ v.moved)))
