-- From the accesses that were noted to the events of the run.
use Rattle.std.specs.Prelude.{◌≡◌, ◌≢◌, ◌<◌, ◌≤◌, ℕ, zero, suc, List, [], ◌∷◌, length, Some, slice_get, refl}
use Rattle.std.proofs.{Common.{inl, inr, ap, sym, subst, ◌∙◌, arith}, lemmas.Option.{same_Some, none-some}, lemmas.Bool.Decides.{eqb_tells, leb_tells}}
use Rattle.pc_base.proofs.Gets.{get_below}
use Rattle.pc_core.specs.CoreData.{CoreData}
use Rattle.pc_semantics.specs.{declared.access.Access.Access, Safety.access}
use Rattle.pc_clocks.specs.Seats.{number}
use Rattle.pc_events.specs.{Before.{at_place, Event, Before}, Clock.{Clock, Conflict}}
use Rattle.pc_events.proofs.Events.{one_actor, index_event, clock_is}
use Rattle.pc_trace.specs.{declared.touch.Touch.Touch, declared.touch.Verdict.Verdict, Clashes.{Clash, IsKnownTo, Unknown, JudgedAccesses}, Noted.{NotedAt, Noted}, Traces.{AllTouches, VerdictIs}}
use Rattle.pc_trace.specs.declared.touch.Verdict.TheVariants as verdict

-- ---- two accesses

module _ (core : CoreData) (list : List ℕ) (q p : ℕ) (t u : Touch) (one : NotedAt core list q t) (other : NotedAt core list p u) where
  -- What a later access's clock counts is before it.
  known_before : q < p → IsKnownTo t u → Before core list q p
  known_before l known =
      elim (other.counts.outside t.actor q one.event (later q p l) (up_to _ _ _ (one.counts.inside t.actor q one.event (itself q) (inl refl)) known)) [
        | inl e ↦ absurd (not_same q p l e)
        | inr b ↦ b
      ]
    where
      later : (q p : ℕ) → q < p → q < suc p
      later q p l = omega (arith, l)

      itself : (q : ℕ) → q < suc q
      itself q = omega arith

      up_to : (a b c : ℕ) → a < b → b ≤ c → a < c
      up_to a b c l m = omega (arith, l, m)

      not_same : (q p : ℕ) → q < p → q ≡ p → ⊥
      not_same q p l e = omega (arith, l, e)

  -- What it does not count is not.
  unknown_not_before : q < p → number u.clock t.actor < number t.clock t.actor → Before core list q p → ⊥
  unknown_not_before l unknown b =
      apart _ _ _ _ (one.counts.within t.actor) (index_event core list t.actor q one.event) unknown (other.counts.inside t.actor q one.event (later q p l) (inr b))
    where
      later : (q p : ℕ) → q < p → q < suc p
      later q p l = omega (arith, l)

      apart : (n m i j : ℕ) → n ≤ j → j ≡ suc i → m < n → i < m → ⊥
      apart n m i j a b c d = omega (arith, a, b, c, d)

  clash_conflict : Clash t u → Conflict core list q p
  clash_conflict c = record {
    i = t.actor;
    j = u.actor;
    first = one.event;
    second = other.event;
    differ = c.differ;
    one = record { address = t.address; field = t.field; write = t.write };
    other = record { address = u.address; field = u.field; write = u.write };
    accesses = one.touches;
    accesses_too = other.touches;
    address = c.address;
    field = c.field;
    writes = c.writes;
  }

  conflict_clash : Conflict core list q p → Clash t u
  conflict_clash c =
      let i : c.i ≡ t.actor = one_actor core list q c.i t.actor c.first one.event in
      let j : c.j ≡ u.actor = one_actor core list p c.j u.actor c.second other.event in
      let x : c.one ≡ record { address = t.address; field = t.field; write = t.write } =
      same_Some c.one _ (sym (subst (λ (n : ℕ). access core (at_place core list q) n ≡ Some c.one) i c.accesses) ∙ one.touches)
      in
      let y : c.other ≡ record { address = u.address; field = u.field; write = u.write } =
      same_Some c.other _ (sym (subst (λ (n : ℕ). access core (at_place core list p) n ≡ Some c.other) j c.accesses_too) ∙ other.touches)
      in
      record {
        differ = λ e. c.differ (i ∙ e ∙ sym j);
        address = sym (ap (λ (z : Access). z.address) x) ∙ c.address ∙ ap (λ (z : Access). z.address) y;
        field = sym (ap (λ (z : Access). z.field) x) ∙ c.field ∙ ap (λ (z : Access). z.field) y;
        writes = elim c.writes [ inl w ↦ inl (sym (ap (λ (z : Access). z.write) x) ∙ w) | inr w ↦ inr (sym (ap (λ (z : Access). z.write) y) ∙ w) ];
      }

-- ---- all accesses

same_place : (n p q : ℕ) → n ≡ suc p → n ≡ suc q → p ≡ q
same_place n p q e f = omega (arith, e, f)

below_place : (m n p q : ℕ) → m ≡ suc p → n ≡ suc q → m < n → p < q
below_place m n p q e f l = omega (arith, e, f, l)

not_below : (m n p q : ℕ) → m ≡ suc p → n ≡ suc q → p < q → n < m → ⊥
not_below m n p q e f l g = omega (arith, e, f, l, g)

not_equal : (m n p q : ℕ) → m ≡ suc p → n ≡ suc q → p < q → m ≡ n → ⊥
not_equal m n p q e f l g = omega (arith, e, f, l, g)

module _ (core : CoreData) (list : List ℕ) (touches : List Touch) (noted : Noted core list (length list) touches) where
  -- The access that was noted at a place.
  pub record At (p k : ℕ) (t : Touch) : Type 0 where
    pub is : slice_get touches k ≡ Some t
    pub place : t.place ≡ suc p
    pub right : NotedAt core list p t

  at_event : (p i : ℕ) (x : Access) → Event core list p i → access core (at_place core list p) i ≡ Some x → (k : ℕ) × (t : Touch) × At p k t
  at_event p i x e a =
      let w = noted.all p i x (get_below list p i e.actor) e a in
      let r = noted.each w.0 w.1 w.2 in
      (w.0, w.1, record { is = w.2; place = w.3; right = subst (λ (z : ℕ). NotedAt core list z w.1) (same_place w.1.place r.0 p r.2 w.3) r.3 })

  at_index : (k : ℕ) (t : Touch) → slice_get touches k ≡ Some t → (p : ℕ) × At p k t
  at_index k t e = let r = noted.each k t e in (r.0, record { is = e; place = r.2; right = r.3 })

  -- Earlier events are noted first.
  in_order : (q p k m : ℕ) (t u : Touch) → At q k t → At p m u → q < p → k < m
  in_order q p k m t u a b l =
      elim (leb_tells m k) [
        | inl s ↦
            elim (eqb_tells m k) [
              | inl e ↦ absurd (not_equal t.place u.place q p a.place b.place l (ap (λ (z : Touch). z.place) (same_Some t u (sym a.is ∙ ap (slice_get touches) (sym e.1) ∙ b.is))))
              | inr e ↦ let less : m < k = smaller m k s.1 e.1 in absurd (not_below t.place u.place q p a.place b.place l (noted.order m k u t less b.is a.is))
            ]
        | inr s ↦ s.1
      ]
    where
      smaller : (m k : ℕ) → m ≤ k → m ≢ k → m < k
      smaller m k l d = omega (arith, l, d)

  no_less : (n : ℕ) → 0 ≤ n
  no_less n = omega arith

  -- Two events that conflict were both noted, and the earlier one is before the later one if its access is known.
  ordered_if : (q p : ℕ) → q < p → (c : Conflict core list q p) → ((k m : ℕ) (t u : Touch) → At q k t → At p m u → Clash t u → IsKnownTo t u) → Before core list q p
  ordered_if q p l c known =
      let a = at_event q c.i c.one c.first c.accesses in
      let b = at_event p c.j c.other c.second c.accesses_too in
      known_before core list q p a.1 b.1 a.2.right b.2.right l (known a.0 b.0 a.1 b.1 a.2 b.2 (conflict_clash core list q p a.1 b.1 a.2.right b.2.right c))

  pub verdict_is : (v : Verdict) → JudgedAccesses touches v → VerdictIs core list v
  verdict_is verdict.Ordered h = λ q p l c. ordered_if q p l c (λ k m t u a b clash. h m u (get_below touches m u b.is) b.is k t (no_less k) (in_order q p k m t u a b l) a.is clash)
  verdict_is (verdict.Conflict first second) h =
      let q = at_index h.from h.other h.is_too in
      let p = at_index h.at h.one h.is in
      let same : h.latest.other ≡ h.other = same_Some h.latest.other h.other (sym h.latest.is ∙ h.is_too) in
      let unknown : Unknown h.other h.one = subst (λ (z : Touch). Unknown z h.one) same h.latest.unknown in
      let l : q.0 < p.0 = below_place h.other.place h.one.place q.0 p.0 q.1.place p.1.place (noted.order h.from h.at h.other h.one h.latest.below h.is_too h.is) in (
        q.0,
        p.0,
        h.first_is ∙ q.1.place,
        h.second_is ∙ p.1.place,
        record {
          earlier = l;
          conflict = clash_conflict core list q.0 p.0 h.other h.one q.1.right p.1.right unknown.0;
          not_before = unknown_not_before core list q.0 p.0 h.other h.one q.1.right p.1.right l unknown.1;
        },
        λ r s b m c.
            ordered_if r s b c (λ k n t u x y clash.
            h.earlier n u (in_order s p.0 n h.at u h.one y p.1 m) y.is k t (no_less k) (in_order r s k n t u x y b) x.is clash),
        λ r b m c.
            ordered_if r p.0 m c (λ k n t u x y clash.
            let here : u ≡ h.one = same_access p.0 n h.at u h.one y p.1 in
            subst (IsKnownTo t) (sym here) (h.latest.later k t (in_order q.0 r h.from k h.other t q.1 x b) (in_order r p.0 k h.at t h.one x p.1 m) x.is (subst (Clash t) here clash))),
      )
    where
      -- At one place there is one access.
      same_access : (p k m : ℕ) (t u : Touch) → At p k t → At p m u → t ≡ u
      same_access p k m t u a b =
          elim (eqb_tells k m) [
            | inl s ↦ same_Some t u (sym a.is ∙ ap (slice_get touches) s.1 ∙ b.is)
            | inr s ↦
                elim (leb_tells k m) [
                  | inl e ↦ absurd (twice t.place u.place p a.place b.place (noted.order k m t u (smaller k m e.1 s.1) a.is b.is))
                  | inr e ↦ absurd (twice u.place t.place p b.place a.place (noted.order m k u t e.1 b.is a.is))
                ]
          ]
        where
          twice : (m n p : ℕ) → m ≡ suc p → n ≡ suc p → m < n → ⊥
          twice m n p e f l = omega (arith, e, f, l)

          smaller : (m k : ℕ) → m ≤ k → m ≢ k → m < k
          smaller m k l d = omega (arith, l, d)

  -- ---- the clocks

  number_is : (clock : List ℕ) (a n : ℕ) → slice_get clock a ≡ Some n → number clock a ≡ n
  number_is [] a n e = absurd (none-some n e)
  number_is (x ∷ xs) zero n e = same_Some x n e
  number_is (x ∷ xs) (suc a) n e = number_is xs a n e

  pub all_touches : AllTouches core list touches
  all_touches = record {
    each = λ k t e.
        let r = at_index k t e in (
          r.0,
          r.1.place,
          record {
            event = r.1.right.event;
            touches = r.1.right.touches;
            clock = record {
              actors = r.1.right.width;
              each = λ a n g. subst (Clock core list r.0 a) (number_is t.clock a n g) (clock_is core list r.0 (number t.clock) r.1.right.counts a);
            };
          },
        );
    order = noted.order;
    all = λ p i x e a. let w = at_event p i x e a in (w.0, w.1, w.2.is, w.2.place);
  }
