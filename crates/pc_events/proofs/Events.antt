-- The events of an actor, counted.
use Rattle.std.specs.Prelude.{◌≡◌, ◌<◌, ◌≤◌, ℕ, zero, suc, ◌+◌, ◌-◌, Bool, true, false, ◌&&◌, cond, List, [], ◌∷◌, ◌++◌, length, take, Option, Some, None, slice_get, refl}
use Rattle.std.proofs.{Common.{inl, inr, ap, sym, subst, ◌∙◌, arith}, lemmas.Option.{same_Some, none-some}, lemmas.Bool.eq-eqb, lemmas.Bool.Decides.{eqb_tells, leb_tells}, lemmas.List.{length-append, length-take-le, append-nil}}
use Rattle.pc_base.specs.{Counts.one_if, Lists.Ascends}
use Rattle.pc_base.proofs.Gets.{get_front, get_behind, get_push, get_take, take_get}
use Rattle.pc_core.specs.CoreData.{CoreData}
use Rattle.pc_semantics.specs.{declared.outcome.Outcome.Outcome, declared.outcome.Outcome.TheVariants.{Moved, Skipped, Lacks, TooLong}, Step.outcomes}
use Rattle.pc_events.specs.{Before.Event, Clock.Clock, Counting.{has_actor, has_moved, is_event, index, Counts, AtOrBefore}}
use Rattle.pc_events.proofs.Order.{before_is_earlier}

-- ---- whether a place is one of an actor's events

false_true : false ≡ true → ⊥
false_true e = cc

actor_by : (a : ℕ) (o : Option ℕ) → has_actor a o ≡ true → o ≡ Some a
actor_by a None e = absurd (false_true e)
actor_by a (Some b) e =
    elim (eqb_tells a b) [
      | inl s ↦ ap Some (sym s.1)
      | inr s ↦ absurd (false_true (sym s.0 ∙ e))
    ]

moved_by : (o : Option Outcome) → has_moved o ≡ true → o ≡ Some Moved
moved_by None e = absurd (false_true e)
moved_by (Some Moved) e = refl
moved_by (Some Skipped) e = absurd (false_true e)
moved_by (Some (Lacks l)) e = absurd (false_true e)
moved_by (Some TooLong) e = absurd (false_true e)

both : (b c : Bool) → b && c ≡ true → (b ≡ true) × (c ≡ true)
both true c e = (refl, e)
both false c e = absurd (false_true e)

and_true : (b c : Bool) → b ≡ true → c ≡ true → b && c ≡ true
and_true true c e f = f
and_true false c e f = absurd (false_true e)

pub event_is : (core : CoreData) (list : List ℕ) (k a : ℕ) → Event core list k a → is_event core list a k ≡ true
event_is core list k a e =
    and_true (has_actor a (slice_get list k)) (has_moved (slice_get (outcomes core list) k)) (ap (has_actor a) e.actor ∙ eq-eqb a a refl) (ap has_moved e.moved)

pub is_event_so : (core : CoreData) (list : List ℕ) (k a : ℕ) → is_event core list a k ≡ true → Event core list k a
is_event_so core list k a e =
    let p = both (has_actor a (slice_get list k)) (has_moved (slice_get (outcomes core list) k)) e in
    record { actor = actor_by a (slice_get list k) p.0; moved = moved_by (slice_get (outcomes core list) k) p.1 }

-- One place is an event of one actor.
pub one_actor : (core : CoreData) (list : List ℕ) (k a b : ℕ) → Event core list k a → Event core list k b → a ≡ b
one_actor core list k a b e f = same_Some a b (sym e.actor ∙ f.actor)

-- ---- how many there are

pub index_event : (core : CoreData) (list : List ℕ) (a k : ℕ) → Event core list k a → index core list a (suc k) ≡ suc (index core list a k)
index_event core list a k e = ap (λ (b : Bool). index core list a k + one_if b) (event_is core list k a e) ∙ one_more (index core list a k)
  where
    one_more : (n : ℕ) → n + 1 ≡ suc n
    one_more n = omega arith

pub index_other : (core : CoreData) (list : List ℕ) (a k : ℕ) → (Event core list k a → ⊥) → index core list a (suc k) ≡ index core list a k
index_other core list a k never = by (is_event core list a k) refl
  where
    by : (b : Bool) → is_event core list a k ≡ b → index core list a k + one_if b ≡ index core list a k
    by true e = absurd (never (is_event_so core list k a e))
    by false e = omega arith

pub index_more : (core : CoreData) (list : List ℕ) (a k : ℕ) → index core list a k ≤ index core list a (suc k)
index_more core list a k = omega arith

pub index_up : (core : CoreData) (list : List ℕ) (a j r : ℕ) → index core list a j ≤ index core list a (j + r)
index_up core list a j zero = let e : j + 0 ≡ j = omega arith in subst (λ (n : ℕ). index core list a j ≤ index core list a n) (sym e) (omega arith)
index_up core list a j (suc r) =
    let e : suc (j + r) ≡ j + suc r = omega arith in
    let up : index core list a j ≤ index core list a (j + r) = index_up core list a j r in
    let more : index core list a (j + r) ≤ index core list a (suc (j + r)) = index_more core list a (j + r) in
    subst (λ (n : ℕ). index core list a j ≤ index core list a n) e (through _ _ _ up more)
  where
    through : (x y z : ℕ) → x ≤ y → y ≤ z → x ≤ z
    through x y z p q = omega (arith, p, q)

pub index_rises : (core : CoreData) (list : List ℕ) (a j k : ℕ) → j ≤ k → index core list a j ≤ index core list a k
index_rises core list a j k l = let e : j + (k - j) ≡ k = omega (arith, l) in subst (λ (n : ℕ). index core list a j ≤ index core list a n) e (index_up core list a j (k - j))

-- ---- the places of an actor's events

abbrev pub events_of : CoreData → List ℕ → ℕ → ℕ → List ℕ
events_of core list a zero = []
events_of core list a (suc k) = events_of core list a k ++ cond (is_event core list a k) (k ∷ []) []

pub events_count : (core : CoreData) (list : List ℕ) (a k : ℕ) → length (events_of core list a k) ≡ index core list a k
events_count core list a zero = refl
events_count core list a (suc k) = by (events_count core list a k) (is_event core list a k)
  where
    by : length (events_of core list a k) ≡ index core list a k → (b : Bool) → length (events_of core list a k ++ cond b (k ∷ []) []) ≡ index core list a k + one_if b
    by e true = length-append (events_of core list a k) (k ∷ []) ∙ ap (λ (n : ℕ). n + 1) e
    by e false = length-append (events_of core list a k) [] ∙ ap (λ (n : ℕ). n + 0) e

-- What is at a place of this list is the event that has this many before it.
pub record Found (core : CoreData) (list : List ℕ) (a k n q : ℕ) : Type 0 where
  pub event : Event core list q a
  pub below : q < k
  pub number : index core list a q ≡ n

pub events_found : (core : CoreData) (list : List ℕ) (a k n q : ℕ) → slice_get (events_of core list a k) n ≡ Some q → Found core list a k n q
events_found core list a zero n q e = absurd (none-some q e)
events_found core list a (suc k) n q e = by (λ g. events_found core list a k n q g) (is_event core list a k) refl e
  where
    further : Found core list a k n q → Found core list a (suc k) n q
    further f = let l = f.below in record { event = f.event; below = omega (arith, l); number = f.number }

    last : (is_event core list a k ≡ true) → n ≡ length (events_of core list a k) → k ≡ q → Found core list a (suc k) n q
    last t m same =
        let b : k < suc k = omega arith in
        subst (λ (z : ℕ). Found core list a (suc k) n z) same (record { event = is_event_so core list k a t; below = b; number = sym (m ∙ events_count core list a k) })

    by : (slice_get (events_of core list a k) n ≡ Some q → Found core list a k n q) → (b : Bool) → is_event core list a k ≡ b → slice_get (events_of core list a k ++ cond b (k ∷ []) []) n ≡ Some q → Found core list a (suc k) n q
    by below true t g =
        elim (get_push (events_of core list a k) k n q g) [
          | inl old ↦ further (below old)
          | inr new ↦ last t new.0 new.1
        ]
    by below false t g = further (below (ap (λ (l : List ℕ). slice_get l n) (sym (append-nil (events_of core list a k))) ∙ g))

pub events_has : (core : CoreData) (list : List ℕ) (a k q : ℕ) → Event core list q a → q < k → slice_get (events_of core list a k) (index core list a q) ≡ Some q
events_has core list a zero q e l = absurd (omega (arith, l))
events_has core list a (suc k) q e l =
    elim (leb_tells k q) [
      | inl s ↦ let same : q ≡ k = omega (arith, l, s.1) in here same
      | inr s ↦ get_front (events_of core list a k) (cond (is_event core list a k) (k ∷ []) []) (index core list a q) q (events_has core list a k q e s.1)
    ]
  where
    here : q ≡ k → slice_get (events_of core list a (suc k)) (index core list a q) ≡ Some q
    here same =
        ap (λ (b : Bool). slice_get (events_of core list a k ++ cond b (k ∷ []) []) (index core list a q)) (event_is core list k a (subst (λ (z : ℕ). Event core list z a) same e))
        ∙ ap (slice_get (events_of core list a k ++ k ∷ [])) (ap (index core list a) same ∙ sym (events_count core list a k)) ∙ get_behind (events_of core list a k) k [] ∙ ap Some (sym same)

-- ---- a clock, by what it counts

not_later : (core : CoreData) (list : List ℕ) (p q : ℕ) → AtOrBefore core list p q → q < suc p
not_later core list p q (inl e) = omega (arith, e)
not_later core list p q (inr b) = let l = before_is_earlier core list q p b in omega (arith, l)

pub clock_is : (core : CoreData) (list : List ℕ) (p : ℕ) (f : ℕ → ℕ) → Counts core list (suc p) (AtOrBefore core list p) f → (a : ℕ) → Clock core list p a (f a)
clock_is core list p f c a = record {
  which = take (f a) (events_of core list a (suc p));
  ascends = rising;
  have = λ n q e. let g = get_take (events_of core list a (suc p)) (f a) n q e in let w = events_found core list a (suc p) n q g.1 in (w.event, c.outside a q w.event w.below (subst (λ (m : ℕ). m < f a) (sym w.number) g.0));
  all = λ q u. let l = not_later core list p q u.1 in (index core list a q, take_get (events_of core list a (suc p)) (f a) (index core list a q) q (c.inside a q u.0 l u.1) (events_has core list a (suc p) q u.0 l));
  count = length-take-le (f a) (events_of core list a (suc p)) (subst (λ (n : ℕ). f a ≤ n) (sym (events_count core list a (suc p))) (c.within a));
}
  where
    apart : (i j x y : ℕ) → i < j → x ≡ i → y ≡ j → y ≤ x → ⊥
    apart i j x y l e g h = omega (arith, l, e, g, h)

    rising : Ascends (take (f a) (events_of core list a (suc p)))
    rising i j x y l e g =
        let u = events_found core list a (suc p) i x (get_take (events_of core list a (suc p)) (f a) i x e).1 in
        let v = events_found core list a (suc p) j y (get_take (events_of core list a (suc p)) (f a) j y g).1 in
        elim (leb_tells y x) [
          | inl s ↦ absurd (apart i j (index core list a x) (index core list a y) l u.number v.number (index_rises core list a y x s.1))
          | inr s ↦ s.1
        ]
