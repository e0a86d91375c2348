-- What an actor and a waiting message know of a run, place by place: the events that a clock kept for them counts.
use Rattle.std.specs.Prelude.{◌≡◌, ◌≢◌, ◌⊎◌, ◌<◌, ◌≤◌, ℕ, suc, max, List, Some, refl}
use Rattle.std.proofs.{Common.{inl, inr, ap, sym, subst, ◌∙◌, arith}, lemmas.Bool.Decides.{eqb_tells, leb_tells}}
use Rattle.pc_base.proofs.Gets.{get_within}
use Rattle.pc_core.specs.CoreData.{CoreData}
use Rattle.pc_semantics.specs.declared.ahead.Ahead.TheVariants as ahead
use Rattle.pc_semantics.specs.Ahead.{ahead_of}
use Rattle.pc_events.specs.{Before.{at_place, Event, receiver_of, taken_before, Before, own, carried, chain}, Counting.{Live, index, Counts, AtOrBefore, PastOf, PostOf, Put, total}}
use Rattle.pc_events.proofs.{Order.before_is_earlier, Links.last_link, Events.{one_actor, index_event, index_other, index_more, events_of, events_count, events_found}, Totals.put_below}

-- ---- what is known

not_before : (core : CoreData) (list : List ℕ) (k e : ℕ) → e < k → AtOrBefore core list e k → ⊥
not_before core list k e l (inl s) = omega (arith, l, s)
not_before core list k e l (inr b) = let m = before_is_earlier core list k e b in omega (arith, l, m)

split : (e k : ℕ) → e < suc k → (e < k) ⊎ (e ≡ k)
split e k l = elim (leb_tells k e) [ inl s ↦ let m = s.1 in inr (omega (arith, l, m)) | inr s ↦ inl s.1 ]

more : (e k : ℕ) → e < k → e < suc k
more e k l = omega (arith, l)

self_more : (k : ℕ) → k < suc k
self_more k = omega arith

-- ---- a clock that goes on as it is

less_again : (x y z : ℕ) → x < y → y ≤ z → z ≤ x → ⊥
less_again x y z p q r = omega (arith, p, q, r)

through : (x y z : ℕ) → x ≤ y → y ≤ z → x ≤ z
through x y z p q = omega (arith, p, q)

module _ (core : CoreData) (list : List ℕ) (k : ℕ) (P Q : ℕ → Type 0) (f : ℕ → ℕ) (c : Counts core list k P f) where
  -- The same is known after place k, and not the event there.
  pub counts_kept : ((q : ℕ) → q < k → P q → Q q) → ((q : ℕ) → q < k → Q q → P q) → ((a : ℕ) → Event core list k a → Q k → ⊥) → Counts core list (suc k) Q f
  counts_kept to from never = record {
    within = λ a. through _ _ _ (c.within a) (index_more core list a k);
    inside = λ a q e l known.
        elim (split q k l) [
          | inl s ↦ c.inside a q e s (from q s known)
          | inr s ↦ absurd (never a (subst (λ (z : ℕ). Event core list z a) s e) (subst Q s known))
        ];
    outside = λ a q e l m.
        elim (split q k l) [
          | inl s ↦ to q s (c.outside a q e s m)
          | inr s ↦ absurd (less_again (index core list a k) (f a) (index core list a k) (subst (λ (z : ℕ). index core list a z < f a) s m) (c.within a) (self_le (index core list a k)))
        ];
  }
    where
      self_le : (n : ℕ) → n ≤ n
      self_le n = omega arith

  -- The same is known, in other words.
  pub counts_same : ((q : ℕ) → q < k → P q → Q q) → ((q : ℕ) → q < k → Q q → P q) → Counts core list k Q f
  counts_same to from = record {
    within = c.within;
    inside = λ a q e l known. c.inside a q e l (from q l known);
    outside = λ a q e l m. to q l (c.outside a q e l m);
  }

  -- The same numbers, made in another way.
  pub counts_by : (g : ℕ → ℕ) → ((a : ℕ) → g a ≡ f a) → Counts core list k P g
  counts_by g is = record {
    within = λ a. subst (λ (n : ℕ). n ≤ index core list a k) (sym (is a)) (c.within a);
    inside = λ a q e l known. subst (λ (n : ℕ). index core list a q < n) (sym (is a)) (c.inside a q e l known);
    outside = λ a q e l m. c.outside a q e l (subst (λ (n : ℕ). index core list a q < n) (is a) m);
  }

-- A clock without a number knows nothing.
pub counts_none : (core : CoreData) (list : List ℕ) (k : ℕ) (P : ℕ → Type 0) (f : ℕ → ℕ) → ((a : ℕ) → f a ≡ 0) → ((q : ℕ) → P q → ⊥) → Counts core list k P f
counts_none core list k P f is never = record {
  within = λ a. none_within _ _ (is a);
  inside = λ a q e l known. absurd (never q known);
  outside = λ a q e l m. absurd (none_less _ _ (is a) m);
}
  where
    none_within : (x y : ℕ) → x ≡ 0 → x ≤ y
    none_within x y e = omega (arith, e)

    none_less : (x y : ℕ) → x ≡ 0 → y < x → ⊥
    none_less x y e l = omega (arith, e, l)

-- ---- the clock of an event

-- What the message adds that the event at k takes.
abbrev pub Taken : CoreData → List ℕ → ℕ → ℕ → ℕ → Type 0
Taken core list k i q = (ahead_of core (at_place core list k) i ≡ ahead.Take) × PostOf core list k i (taken_before core list k i) q

module _ (core : CoreData) (list : List ℕ) (k i : ℕ) (ev : Event core list k i) (f g : ℕ → ℕ) (c : Counts core list k (PastOf core list k i) f) (d : Counts core list k (Taken core list k i) g) where
  -- The actor's clock counts all its earlier events.
  own_all : index core list i k ≤ f i
  own_all =
      elim (leb_tells (index core list i k) (f i)) [
        | inl s ↦ s.1
        | inr s ↦
            let w = get_within (events_of core list i k) (f i) (subst (λ (n : ℕ). f i < n) (sym (events_count core list i k)) s.1) in
            let u = events_found core list i k (f i) w.0 w.1 in
            absurd (self_less (f i) (index core list i w.0) u.number (c.inside i w.0 u.event u.below (w.0, u.below, u.event, inl refl)))
      ]
    where
      self_less : (x y : ℕ) → y ≡ x → y < x → ⊥
      self_less x y e l = omega (arith, e, l)

  before_known : (q : ℕ) → Before core list q k → PastOf core list k i q ⊎ Taken core list k i q
  before_known q b =
      let w = last_link core list q k b in
      elim w.1 [
        | inl o ↦ inl (w.0, o.1, subst (λ (z : ℕ). Event core list w.0 z) (one_actor core list k o.0 i o.3 ev) o.2, w.2)
        | inr y ↦
            let same : y.receiver ≡ i = one_actor core list k y.receiver i y.takes ev in
            inr (
              subst (λ (z : ℕ). ahead_of core (at_place core list k) z ≡ ahead.Take) same y.take,
              (
                w.0,
                y.later,
                record {
                  sender = y.sender;
                  puts = y.puts;
                  to = y.to ∙ ap Some same;
                  number = subst (λ (z : ℕ). taken_before core list k z ≡ total core list w.0 z) same y.message;
                },
                w.2,
              ),
            )
      ]

  past_before : (q : ℕ) → PastOf core list k i q → Before core list q k
  past_before q p =
      let last : Before core list p.0 k = own i p.0 k p.1 p.2 ev in
      elim p.3 [ inl s ↦ subst (λ (z : ℕ). Before core list z k) (sym s) last | inr b ↦ chain q p.0 k b last ]

  taken_before_it : (q : ℕ) → Taken core list k i q → Before core list q k
  taken_before_it q p =
      let m = p.1 in
      let y = m.2 in
      let last : Before core list m.0 k =
      carried m.0 k (record { sender = y.sender; receiver = i; puts = y.puts; to = y.to; takes = ev; take = p.0; later = m.1; message = y.number })
      in
      elim m.3 [ inl s ↦ subst (λ (z : ℕ). Before core list z k) (sym s) last | inr b ↦ chain q m.0 k b last ]

  module _ (h : ℕ → ℕ) (own_is : h i ≡ suc (max (f i) (g i))) (others : (a : ℕ) → a ≢ i → h a ≡ max (f a) (g a)) where
    largest : (x y z n : ℕ) → x ≤ n → y ≤ n → z ≡ max x y → z ≤ n
    largest x y z n p q e = omega (arith, p, q, e)

    next_largest : (x y z n m : ℕ) → x ≤ n → y ≤ n → z ≡ suc (max x y) → m ≡ suc n → z ≤ m
    next_largest x y z n m p q e s = omega (arith, p, q, e, s)

    in_first : (x y z n : ℕ) → n < x → z ≡ max x y → n < z
    in_first x y z n p e = omega (arith, p, e)

    in_second : (x y z n : ℕ) → n < y → z ≡ max x y → n < z
    in_second x y z n p e = omega (arith, p, e)

    in_first_next : (x y z n : ℕ) → n ≤ x → z ≡ suc (max x y) → n < z
    in_first_next x y z n p e = omega (arith, p, e)

    less_le : (n x : ℕ) → n < x → n ≤ x
    less_le n x p = omega (arith, p)

    in_second_next : (x y z n : ℕ) → n < y → z ≡ suc (max x y) → n < z
    in_second_next x y z n p e = omega (arith, p, e)

    one_of : (x y z n : ℕ) → n < z → z ≡ max x y → (n < x) ⊎ (n < y)
    one_of x y z n p e = elim (leb_tells x n) [ inl s ↦ let m = s.1 in inr (omega (arith, p, e, m)) | inr s ↦ inl s.1 ]

    in_past : (a q : ℕ) → index core list a q < f a → index core list a q < h a
    in_past a q l =
        elim (eqb_tells a i) [
          | inl s ↦ subst (λ (z : ℕ). index core list z q < h z) (sym s.1) (in_first_next (f i) (g i) (h i) (index core list i q) (less_le _ _ (subst (λ (z : ℕ). index core list z q < f z) s.1 l)) own_is)
          | inr s ↦ in_first (f a) (g a) (h a) (index core list a q) l (others a s.1)
        ]

    in_taken : (a q : ℕ) → index core list a q < g a → index core list a q < h a
    in_taken a q l =
        elim (eqb_tells a i) [
          | inl s ↦ subst (λ (z : ℕ). index core list z q < h z) (sym s.1) (in_second_next (f i) (g i) (h i) (index core list i q) (subst (λ (z : ℕ). index core list z q < g z) s.1 l) own_is)
          | inr s ↦ in_second (f a) (g a) (h a) (index core list a q) l (others a s.1)
        ]

    within_next : (a : ℕ) → h a ≤ index core list a (suc k)
    within_next a =
        elim (eqb_tells a i) [
          | inl s ↦ subst (λ (z : ℕ). h z ≤ index core list z (suc k)) (sym s.1) (next_largest (f i) (g i) (h i) (index core list i k) (index core list i (suc k)) (c.within i) (d.within i) own_is (index_event core list i k ev))
          | inr s ↦
              subst (λ (n : ℕ). h a ≤ n) (sym (index_other core list a k (λ e. s.1 (one_actor core list k a i e ev)))) (largest (f a) (g a) (h a) (index core list a k) (c.within a) (d.within a) (others a s.1))
        ]

    inside_before : (a q : ℕ) → Event core list q a → q < k → Before core list q k → index core list a q < h a
    inside_before a q e l b = elim (before_known q b) [ inl p ↦ in_past a q (c.inside a q e l p) | inr t ↦ in_taken a q (d.inside a q e l t) ]

    itself : (a q : ℕ) → Event core list q a → q ≡ k → index core list a q < h a
    itself a q e s =
        let same : a ≡ i = one_actor core list k a i (subst (λ (z : ℕ). Event core list z a) s e) ev in
        subst (λ (z : ℕ). index core list z q < h z) (sym same) (subst (λ (z : ℕ). index core list i z < h i) (sym s) (in_first_next (f i) (g i) (h i) (index core list i k) own_all own_is))

    outside_before : (a q : ℕ) → Event core list q a → q < k → index core list a q < h a → Before core list q k
    outside_before a q e l m =
        elim (eqb_tells a i) [
          | inl s ↦ own i q k l (subst (Event core list q) s.1 e) ev
          | inr s ↦
              elim (one_of (f a) (g a) (h a) (index core list a q) m (others a s.1)) [
                | inl x ↦ past_before q (c.outside a q e l x)
                | inr y ↦ taken_before_it q (d.outside a q e l y)
              ]
        ]

    -- The clock after an event is the greater of the actor's and that of the message that it takes, and one more for
    -- itself.
    pub counts_event : Counts core list (suc k) (AtOrBefore core list k) h
    counts_event = record {
      within = within_next;
      inside = λ a q e l known.
          elim known [
            | inl s ↦ itself a q e s
            | inr b ↦ inside_before a q e (before_is_earlier core list q k b) b
          ];
      outside = λ a q e l m.
          elim (split q k l) [
            | inl s ↦ inr (outside_before a q e s m)
            | inr s ↦ inl s
          ];
    }

-- ---- what the actors and messages know after place k

module _ (core : CoreData) (list : List ℕ) (k : ℕ) where
  -- Its own event is known to an actor, and all that is before it.
  pub own_past : (i : ℕ) → Event core list k i → (h : ℕ → ℕ) → Counts core list (suc k) (AtOrBefore core list k) h → Counts core list (suc k) (PastOf core list (suc k) i) h
  own_past i ev h c = counts_same core list (suc k) (AtOrBefore core list k) (PastOf core list (suc k) i) h c (λ q l known. (k, self_more k, ev, known)) (λ q l p. back q p)
    where
      back : (q : ℕ) → PastOf core list (suc k) i q → AtOrBefore core list k q
      back q p =
          elim (split p.0 k p.1) [
            | inl s ↦
                let last : Before core list p.0 k = own i p.0 k s p.2 ev in
                elim p.3 [ inl z ↦ inr (subst (λ (y : ℕ). Before core list y k) (sym z) last) | inr b ↦ inr (chain q p.0 k b last) ]
            | inr s ↦ subst (λ (y : ℕ). AtOrBefore core list y q) s p.3
          ]

  -- This holds for the message that it puts, too.
  pub own_post : (i r : ℕ) → Live core list k → Event core list k i → receiver_of core (at_place core list k) i ≡ Some r → (h : ℕ → ℕ) → Counts core list (suc k) (AtOrBefore core list k) h → Counts core list (suc k) (PostOf core list (suc k) r (total core list k r)) h
  own_post i r live ev to h c =
      counts_same core list (suc k) (AtOrBefore core list k) (PostOf core list (suc k) r (total core list k r)) h c (λ q l known. (k, self_more k, record { sender = i; puts = ev; to = to; number = refl }, known)) (λ q l p. back q p)
    where
      not_self : (n : ℕ) → n < n → ⊥
      not_self n l = omega (arith, l)

      back : (q : ℕ) → PostOf core list (suc k) r (total core list k r) q → AtOrBefore core list k q
      back q p =
          elim (split p.0 k p.1) [
            | inl s ↦ absurd (not_self (total core list k r) (put_below core list p.0 k r (total core list k r) live s p.2))
            | inr s ↦ subst (λ (y : ℕ). AtOrBefore core list y q) s p.3
          ]

  -- No event of the actor is at k: nothing new is known to it.
  pub past_kept : (a : ℕ) → (Event core list k a → ⊥) → (f : ℕ → ℕ) → Counts core list k (PastOf core list k a) f → Counts core list (suc k) (PastOf core list (suc k) a) f
  past_kept a none f c =
      counts_kept core list k (PastOf core list k a) (PastOf core list (suc k) a) f c (λ q l p. (p.0, more p.0 k p.1, p.2, p.3)) (λ q l p. let b = back q p in b.0) (λ b e p. let x = back k p in let y = x.1 in not_before core list k y.0 y.1 y.2)
    where
      back : (q : ℕ) → PastOf core list (suc k) a q → PastOf core list k a q × ((e : ℕ) × (e < k) × AtOrBefore core list e q)
      back q p =
          elim (split p.0 k p.1) [
            | inl s ↦ ((p.0, s, p.2, p.3), (p.0, s, p.3))
            | inr s ↦ absurd (none (subst (λ (y : ℕ). Event core list y a) s p.2))
          ]

  -- The message was there before: nothing new is known to it.
  pub post_kept : (r n : ℕ) → (Put core list k r n → ⊥) → (f : ℕ → ℕ) → Counts core list k (PostOf core list k r n) f → Counts core list (suc k) (PostOf core list (suc k) r n) f
  post_kept r n none f c =
      counts_kept core list k (PostOf core list k r n) (PostOf core list (suc k) r n) f c (λ q l p. (p.0, more p.0 k p.1, p.2, p.3)) (λ q l p. let b = back q p in b.0) (λ b e p. let x = back k p in let y = x.1 in not_before core list k y.0 y.1 y.2)
    where
      back : (q : ℕ) → PostOf core list (suc k) r n q → PostOf core list k r n q × ((e : ℕ) × (e < k) × AtOrBefore core list e q)
      back q p =
          elim (split p.0 k p.1) [
            | inl s ↦ ((p.0, s, p.2, p.3), (p.0, s, p.3))
            | inr s ↦ absurd (none (subst (λ (y : ℕ). Put core list y r n) s p.2))
          ]
