-- How many messages a mailbox was given, place by place.
use Rattle.std.specs.Prelude.{◌≡◌, ◌≢◌, ◌⊎◌, ◌<◌, ◌≤◌, ℕ, zero, suc, ◌+◌, Bool, true, false, ◌&&◌, if◌then◌else◌, nat_eq, List, length, Some, None, slice_get, refl}
use Rattle.std.proofs.{Common.{inl, inr, ap, sym, subst, ◌∙◌, arith}, lemmas.Option.{same_Some, none-some}, lemmas.Bool.Decides.{eqb_tells, leb_tells}}
use Rattle.pc_core.specs.CoreData.{CoreData}
use Rattle.pc_semantics.specs.{declared.outcome.Outcome.TheVariants.{Moved, Skipped}, Configurations.{Configuration, start}, Step.outcomes, declared.ahead.Ahead.Ahead, Ahead.ahead_of}
use Rattle.pc_semantics.specs.declared.ahead.Ahead.TheVariants as ahead
use Rattle.pc_events.proofs.{Changes.applied, Plans.plans, Told.told, Outcomes.{turn, skipped_next}, Closed.{moved_next, skipped_behind}, Boxes.{Boxes, boxes, none_behind}}
use Rattle.pc_events.specs.{Before.{at_place, Event, is_take, receiver_by, receiver_of, takes_one, taken_before, waiting_of, waiting_for}, Counting.{Live, total, Put}}

-- ---- a place

-- The event of actor i at place k.
pub record Moving (core : CoreData) (list : List ℕ) (k i : ℕ) : Type 0 where
  pub there : i < length (at_place core list k).actors
  pub boxes : Boxes (at_place core list k) (at_place core list (suc k)) i (ahead_of core (at_place core list k) i)
  pub counts : (a : ℕ) → taken_before core list (suc k) a ≡ taken_before core list k a + takes_one core (at_place core list k) i a

pub moving : (core : CoreData) (list : List ℕ) (k i : ℕ) → Event core list k i → Moving core list k i
moving core list k i e =
    let t = turn core list (start core) k Moved e.moved in
    let c : Configuration = at_place core list k in
    let x = plans core c t.actor t.ends in
    let same : t.actor ≡ i = same_Some t.actor i (sym t.is ∙ e.actor) in
    let behind : at_place core list (suc k) ≡ applied c t.actor x.0 = moved_next core list k e.moved x.0 x.1 in
    let has : Moving core list k t.actor = record { there = (told core c t.actor x.0 x.1).there; boxes = subst (λ (d : Configuration). Boxes c d t.actor (ahead_of core c t.actor)) (sym behind) (boxes core c t.actor x.0 x.1); counts = t.counts } in
    subst (Moving core list k) same has

-- A turn that was skipped.
pub record Resting (core : CoreData) (list : List ℕ) (k : ℕ) : Type 0 where
  pub same : at_place core list (suc k) ≡ at_place core list k
  pub counts : (a : ℕ) → taken_before core list (suc k) a ≡ taken_before core list k a

pub resting : (core : CoreData) (list : List ℕ) (k : ℕ) → slice_get (outcomes core list) k ≡ Some Skipped → Resting core list k
resting core list k e =
    let t = turn core list (start core) k Skipped e in
    record {
      same = skipped_behind core list k e;
      counts = λ a. skipped_next core (at_place core list k) t.actor a (taken_before core list k a) (taken_before core list (suc k) a) t.ends (t.counts a);
    }

-- ---- how many messages a mailbox was given

abbrev one_for : ℕ → ℕ → Bool → ℕ
one_for i r b = if nat_eq i r && b then 1 else 0

no_take : (n : ℕ) (b : Bool) → n + (if b && false then 1 else 0) ≡ n
no_take n true = omega arith
no_take n false = omega arith

-- What a take adds to the count of its actor, and to no other.
take_own : (n i r : ℕ) → i ≡ r → n + one_for i r true ≡ suc n
take_own n i r e =
    elim (eqb_tells i r) [
      | inl s ↦ ap (λ (b : Bool). n + (if b && true then 1 else 0)) s.0 ∙ one_more n
      | inr s ↦ absurd (s.1 e)
    ]
  where
    one_more : (n : ℕ) → n + 1 ≡ suc n
    one_more n = omega arith

take_other : (n i r : ℕ) → i ≢ r → n + one_for i r true ≡ n
take_other n i r e =
    elim (eqb_tells i r) [
      | inl s ↦ absurd (e s.1)
      | inr s ↦ ap (λ (b : Bool). n + (if b && true then 1 else 0)) s.0 ∙ none_more n
    ]
  where
    none_more : (n : ℕ) → n + 0 ≡ n
    none_more n = omega arith

none_some : (r : ℕ) → None ≡ Some r → ⊥
none_some r e = none-some r e

abbrev Up : Configuration → Configuration → ℕ → ℕ → ℕ → Ahead → Type 0
Up c d r t u h = (t + waiting_for c r ≤ u + waiting_for d r) × (receiver_by c h ≡ Some r → u + waiting_for d r ≡ suc (t + waiting_for c r))

same_up : (t u x y : ℕ) → u ≡ t → y ≡ x → t + x ≤ u + y
same_up t u x y e f = omega (arith, e, f)

one_up : (t u x y : ℕ) → u ≡ t → y ≡ suc x → u + y ≡ suc (t + x)
one_up t u x y e f = omega (arith, e, f)

one_more_up : (t u x y : ℕ) → u ≡ t → y ≡ suc x → t + x ≤ u + y
one_more_up t u x y e f = omega (arith, e, f)

moved_up : (t u x y : ℕ) → u ≡ suc t → x ≡ suc y → t + x ≤ u + y
moved_up t u x y e f = omega (arith, e, f)

up_by : (c d : Configuration) (i r t u : ℕ) (h : Ahead) → Boxes c d i h → u ≡ t + one_for i r (is_take h) → Up c d r t u h
up_by c d i r t u ahead.Take b e = (
  elim (eqb_tells i r) [
    | inl s ↦ moved_up t u (waiting_for c r) (waiting_for d r) (e ∙ take_own t i r s.1)
        (subst (λ (z : ℕ). waiting_for c z ≡ suc (waiting_for d z)) s.1 b.1)
    | inr s ↦ same_up t u (waiting_for c r) (waiting_for d r) (e ∙ take_other t i r s.1) (b.2 r (λ z. s.1 (sym z)))
  ],
  λ z. absurd (none_some r z),
)
up_by c d i r t u (ahead.Send a) b e =
    let same : u ≡ t = e ∙ no_take t (nat_eq i r) in (
      elim (eqb_tells r a) [
        | inl s ↦ one_more_up t u (waiting_for c r) (waiting_for d r) same (subst (λ (z : ℕ). waiting_for d z ≡ suc (waiting_for c z)) (sym s.1) b.2)
        | inr s ↦ same_up t u (waiting_for c r) (waiting_for d r) same (b.3 r s.1)
      ],
      λ z. one_up t u (waiting_for c r) (waiting_for d r) same (subst (λ (y : ℕ). waiting_for d y ≡ suc (waiting_for c y)) (same_Some a r z) b.2),
    )
up_by c d i r t u ahead.Spawn b e =
    let same : u ≡ t = e ∙ no_take t (nat_eq i r) in
    let here : (y : ℕ) → y ≡ length c.actors → waiting_for d y ≡ suc (waiting_for c y) =
    λ y s. ap (waiting_for d) s ∙ b.1 ∙ sym (ap suc (ap (waiting_for c) s ∙ nobody c (length c.actors) (no_more (length c.actors))))
    in (
      elim (eqb_tells r (length c.actors)) [
        | inl s ↦ one_more_up t u (waiting_for c r) (waiting_for d r) same (here r s.1)
        | inr s ↦ same_up t u (waiting_for c r) (waiting_for d r) same (b.2 r s.1)
      ],
      λ z. one_up t u (waiting_for c r) (waiting_for d r) same (here r (sym (same_Some (length c.actors) r z))),
    )
  where
    no_more : (n : ℕ) → n ≤ n
    no_more n = omega arith

    nobody : (c : Configuration) (a : ℕ) → length c.actors ≤ a → waiting_for c a ≡ 0
    nobody c a l = ap waiting_of (none_behind c.actors a l)
up_by c d i r t u ahead.Task b e = (same_up t u (waiting_for c r) (waiting_for d r) (e ∙ no_take t (nat_eq i r)) (b.1 r), λ z. absurd (none_some r z))
up_by c d i r t u ahead.Skipped b e = absurd b
up_by c d i r t u ahead.Lacks b e = absurd b
up_by c d i r t u ahead.TooLong b e = absurd b

-- ---- how many were taken after an event

pub taken_own : (core : CoreData) (list : List ℕ) (k i : ℕ) → Moving core list k i → ahead_of core (at_place core list k) i ≡ ahead.Take → taken_before core list (suc k) i ≡ suc (taken_before core list k i)
taken_own core list k i m h = m.counts i ∙ ap (λ (x : Ahead). taken_before core list k i + one_for i i (is_take x)) h ∙ take_own (taken_before core list k i) i i refl

pub taken_other : (core : CoreData) (list : List ℕ) (k i a : ℕ) → Moving core list k i → a ≢ i → taken_before core list (suc k) a ≡ taken_before core list k a
taken_other core list k i a m n =
    elim (eqb_tells i a) [
      | inl s ↦ absurd (n (sym s.1))
      | inr s ↦ m.counts a ∙ ap (λ (b : Bool). taken_before core list k a + (if b && is_take (ahead_of core (at_place core list k) i) then 1 else 0)) s.0 ∙ none_more (taken_before core list k a)
    ]
  where
    none_more : (n : ℕ) → n + 0 ≡ n
    none_more n = omega arith

pub taken_none : (core : CoreData) (list : List ℕ) (k i a : ℕ) → Moving core list k i → is_take (ahead_of core (at_place core list k) i) ≡ false → taken_before core list (suc k) a ≡ taken_before core list k a
taken_none core list k i a m e = m.counts a ∙ ap (λ (b : Bool). taken_before core list k a + one_for i a b) e ∙ no_take (taken_before core list k a) (nat_eq i a)

-- ---- the total never falls, and rises by one when a message is put

total_moves : (core : CoreData) (list : List ℕ) (k i r : ℕ) → Moving core list k i → Up (at_place core list k) (at_place core list (suc k)) r (taken_before core list k r) (taken_before core list (suc k) r) (ahead_of core (at_place core list k) i)
total_moves core list k i r m = up_by (at_place core list k) (at_place core list (suc k)) i r (taken_before core list k r) (taken_before core list (suc k) r) (ahead_of core (at_place core list k) i) m.boxes (m.counts r)

pub total_put : (core : CoreData) (list : List ℕ) (k i r : ℕ) → Event core list k i → receiver_of core (at_place core list k) i ≡ Some r → total core list (suc k) r ≡ suc (total core list k r)
total_put core list k i r e to = (total_moves core list k i r (moving core list k i e)).1 to

total_next : (core : CoreData) (list : List ℕ) (k r : ℕ) → (slice_get (outcomes core list) k ≡ Some Moved) ⊎ (slice_get (outcomes core list) k ≡ Some Skipped) → total core list k r ≤ total core list (suc k) r
total_next core list k r (inl e) =
    let t = turn core list (start core) k Moved e in
    (total_moves core list k t.actor r (moving core list k t.actor (record { actor = t.is; moved = e }))).0
total_next core list k r (inr e) =
    let s = resting core list k e in
    same_up (taken_before core list k r) (taken_before core list (suc k) r) (waiting_for (at_place core list k) r) (waiting_for (at_place core list (suc k)) r) (s.counts r) (ap (λ (c : Configuration). waiting_for c r) s.same)

pub total_rises : (core : CoreData) (list : List ℕ) (r e k : ℕ) → Live core list k → e ≤ k → total core list e r ≤ total core list k r
total_rises core list r e zero live l = let same : e ≡ 0 = omega (arith, l) in subst (λ (n : ℕ). total core list n r ≤ total core list 0 r) (sym same) (no_less (total core list 0 r))
  where
    no_less : (n : ℕ) → n ≤ n
    no_less n = omega arith
total_rises core list r e (suc k) live l =
    elim (leb_tells e k) [
      | inl s ↦
          let up : total core list e r ≤ total core list k r = total_rises core list r e k (λ m b. live m (omega (arith, b))) s.1 in
          let here : k < suc k = omega arith in
          through _ _ _ up (total_next core list k r (live k here))
      | inr s ↦ let same : e ≡ suc k = omega (arith, l, s.1) in subst (λ (n : ℕ). total core list n r ≤ total core list (suc k) r) (sym same) (no_less (total core list (suc k) r))
    ]
  where
    through : (x y z : ℕ) → x ≤ y → y ≤ z → x ≤ z
    through x y z p q = omega (arith, p, q)

    no_less : (n : ℕ) → n ≤ n
    no_less n = omega arith

-- ---- what was put

pub put_below : (core : CoreData) (list : List ℕ) (e k r n : ℕ) → Live core list k → e < k → Put core list e r n → n < total core list k r
put_below core list e k r n live l p =
    let next : suc e ≤ k = omega (arith, l) in
    below n _ _ _ p.number (total_put core list e p.sender r p.puts p.to) (total_rises core list r (suc e) k live next)
  where
    below : (n t u v : ℕ) → n ≡ t → u ≡ suc t → u ≤ v → n < v
    below n t u v a b c = omega (arith, a, b, c)

-- ---- there are never fewer actors

same_count : (n m : ℕ) → n ≡ m → m ≤ n
same_count n m e = omega (arith, e)

next_count : (n m : ℕ) → n ≡ suc m → m ≤ n
next_count n m e = omega (arith, e)

pub actors_by : (c d : Configuration) (i : ℕ) (h : Ahead) → Boxes c d i h → length c.actors ≤ length d.actors
actors_by c d i ahead.Take b = same_count _ _ b.0
actors_by c d i (ahead.Send a) b = same_count _ _ b.0
actors_by c d i ahead.Spawn b = next_count _ _ b.0
actors_by c d i ahead.Task b = same_count _ _ b.0
actors_by c d i ahead.Skipped b = absurd b
actors_by c d i ahead.Lacks b = absurd b
actors_by c d i ahead.TooLong b = absurd b

pub actors_next : (core : CoreData) (list : List ℕ) (k : ℕ) → (slice_get (outcomes core list) k ≡ Some Moved) ⊎ (slice_get (outcomes core list) k ≡ Some Skipped) → length (at_place core list k).actors ≤ length (at_place core list (suc k)).actors
actors_next core list k (inl e) =
    let t = turn core list (start core) k Moved e in
    actors_by (at_place core list k) (at_place core list (suc k)) t.actor (ahead_of core (at_place core list k) t.actor) (moving core list k t.actor (record { actor = t.is; moved = e })).boxes
actors_next core list k (inr e) = let s = resting core list k e in same_count _ _ (ap (λ (c : Configuration). length c.actors) s.same)

pub actors_rise : (core : CoreData) (list : List ℕ) (e k : ℕ) → Live core list k → e ≤ k → length (at_place core list e).actors ≤ length (at_place core list k).actors
actors_rise core list e zero live l = let same : e ≡ 0 = omega (arith, l) in subst (λ (n : ℕ). length (at_place core list n).actors ≤ length (at_place core list 0).actors) (sym same) (no_less (length (at_place core list 0).actors))
  where
    no_less : (n : ℕ) → n ≤ n
    no_less n = omega arith
actors_rise core list e (suc k) live l =
    elim (leb_tells e k) [
      | inl s ↦
          let up : length (at_place core list e).actors ≤ length (at_place core list k).actors = actors_rise core list e k (λ m b. live m (omega (arith, b))) s.1 in
          let here : k < suc k = omega arith in
          through _ _ _ up (actors_next core list k (live k here))
      | inr s ↦
          let same : e ≡ suc k = omega (arith, l, s.1) in subst (λ (n : ℕ). length (at_place core list n).actors ≤ length (at_place core list (suc k)).actors) (sym same) (no_less (length (at_place core list (suc k)).actors))
    ]
  where
    through : (x y z : ℕ) → x ≤ y → y ≤ z → x ≤ z
    through x y z p q = omega (arith, p, q)

    no_less : (n : ℕ) → n ≤ n
    no_less n = omega arith
