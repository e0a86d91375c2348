-- The accesses of a whole run.
use Rattle.std.specs.Prelude.{◌≡◌, ◌<◌, ◌≤◌, ◌^◌, ℕ, zero, suc, ◌+◌, List, [], ◌∷◌, length, Some, slice_get, refl}
use Rattle.std.proofs.{Common.{inl, inr, ap, sym, subst, ◌∙◌, arith}, lemmas.Option.{same_Some, none-some}, lemmas.Bool.Decides.leb_tells}
use Rattle.pc_base.proofs.Gets.{get_below, get_within}
use Rattle.pc_core.specs.CoreData.{CoreData}
use Rattle.pc_semantics.specs.{declared.outcome.Lack.Lack, declared.outcome.Outcome.Outcome, declared.outcome.Outcome.TheVariants.{Moved, Skipped, Lacks, TooLong}, Configurations.{Configuration, start}, Step.{step, followed, run_from, outcomes_from}, Safety.Safe, Text.ended_at}
use Rattle.pc_clocks.specs.Seats.{number}
use Rattle.pc_events.specs.Counting.{index}
use Rattle.pc_events.proofs.{Events.index_rises, Order.earlier_comes_before}
use Rattle.pc_trace.specs.{declared.touch.Touch.Touch, declared.touch.Verdict.Verdict, declared.touch.Verdict.TheVariants.Ordered, declared.fault.TraceFault.TraceFault, Clashes.JudgedAccesses, Covers.Rises, Noted.Noted, Traces.{RanOn, AllTouches, VerdictIs}, Stops.TraceStops}
use Rattle.pc_trace.specs.declared.fault.TraceFault.TheVariants as fault
use Rattle.pc_trace.proofs.Verdicts.{all_touches, verdict_is}

-- ---- there are no more accesses than places

module _ (core : CoreData) (list : List ℕ) (touches : List Touch) (noted : Noted core list (length list) touches) where
  place_low : (k : ℕ) (t : Touch) → slice_get touches k ≡ Some t → k < t.place
  place_low zero t e = let r = noted.each 0 t e in first t.place r.0 r.2
    where
      first : (n p : ℕ) → n ≡ suc p → 0 < n
      first n p e = omega (arith, e)
  place_low (suc k) t e =
      let w = get_within touches k (lower k (get_below touches (suc k) t e)) in
      above k w.0.place t.place (place_low k w.0 w.1) (noted.order k (suc k) w.0 t (next k) w.1 e)
    where
      lower : (k : ℕ) → suc k < length touches → k < length touches
      lower k l = omega (arith, l)

      next : (k : ℕ) → k < suc k
      next k = omega arith

      above : (k m n : ℕ) → k < m → m < n → suc k < n
      above k m n l h = omega (arith, l, h)

  few_touches : length touches ≤ length list
  few_touches =
      elim (leb_tells (length touches) (length list)) [
        | inl s ↦ s.1
        | inr s ↦
            let w = get_within touches (length list) s.1 in
            let r = noted.each (length list) w.0 w.1 in
            absurd (apart (length list) w.0.place r.0 (place_low (length list) w.0 w.1) r.2 r.1)
      ]
    where
      apart : (n m p : ℕ) → n < m → m ≡ suc p → p < n → ⊥
      apart n m p a b c = omega (arith, a, b, c)

  small : (n m k : ℕ) → n ≡ m → m ≤ k → k ≤ 4000000 → n < 2 ^ 32
  small n m k a b c = omega (arith, a, b, c)

  pub few_told : (l : List Touch) → l ≡ touches → length list ≤ 4000000 → length l < 2 ^ 32
  few_told l is few = small (length l) (length touches) (length list) (ap (λ (x : List Touch). length x) is) few_touches few

  -- ---- the clocks of one actor's accesses rise

  rises : Rises touches
  rises m n q p l e f same =
      let a = noted.each m q e in
      let b = noted.each n p f in
      let earlier : a.0 < b.0 = lower q.place p.place a.0 b.0 a.2 b.2 (noted.order m n q p l e f) in
      less _ _ _ _ (a.3.counts.within q.actor) (index_rises core list q.actor (suc a.0) b.0 (next a.0 b.0 earlier))
      (subst (λ (i : ℕ). index core list i b.0 < number p.clock p.actor) (sym same) (b.3.counts.inside p.actor b.0 b.3.event (self b.0) (inl refl)))
    where
      lower : (m n p q : ℕ) → m ≡ suc p → n ≡ suc q → m < n → p < q
      lower m n p q e f l = omega (arith, e, f, l)

      next : (a b : ℕ) → a < b → suc a ≤ b
      next a b l = omega (arith, l)

      self : (b : ℕ) → b < suc b
      self b = omega arith

      less : (x i j y : ℕ) → x ≤ i → i ≤ j → j < y → x < y
      less x i j y a b c = omega (arith, a, b, c)

  pub rises_told : (l : List Touch) → l ≡ touches → Rises l
  rises_told l is = subst Rises (sym is) rises

  -- ---- what is reported

  pub told : (l : List Touch) → l ≡ touches → (v : Verdict) → JudgedAccesses l v → RanOn core list → RanOn core list × AllTouches core list touches × VerdictIs core list v
  told l is v judged ran =
      (ran, all_touches core list touches noted, verdict_is core list touches noted v (subst (λ (x : List Touch). JudgedAccesses x v) is judged))

  pub told_safe : Safe core → RanOn core list → RanOn core list × AllTouches core list touches × VerdictIs core list Ordered
  told_safe safe ran = (ran, all_touches core list touches noted, λ q p l c. earlier_comes_before core safe list q p l c)

-- ---- a safe core lacks nothing

abbrev SomeLack : CoreData → Configuration → Lack → Type 0
SomeLack core c l = (front : List ℕ) × (i : ℕ) × ((step core (run_from core c front) i).0 ≡ Lacks l)

lack_found : (core : CoreData) (list : List ℕ) (c : Configuration) (m n : ℕ) (l : Lack) → ended_at m (outcomes_from core c list) ≡ Some (n, Lacks l) → SomeLack core c l
lack_found core [] c m n l e = absurd (none-some (n, Lacks l) e)
lack_found core (i ∷ is) c m n l e = go (λ d f. lack_found core is d (m + 1) n l f) (step core c i) refl e
  where
    long_lacks : TooLong ≡ Lacks l → ⊥
    long_lacks z = cc

    go : ((d : Configuration) → ended_at (m + 1) (outcomes_from core d is) ≡ Some (n, Lacks l) → SomeLack core d l) → (r : Outcome × Configuration) → step core c i ≡ r
        → ended_at m (r.0 ∷ followed (λ d. outcomes_from core d is) [] c r) ≡ Some (n, Lacks l) → SomeLack core c l
    go more (Moved, d) s f = let w = more d f in (i ∷ w.0, w.1, ap (λ (r : Outcome × Configuration). (step core (followed (λ x. run_from core x w.0) c c r) w.1).0) s ∙ w.2)
    go more (Skipped, d) s f = let w = more c f in (i ∷ w.0, w.1, ap (λ (r : Outcome × Configuration). (step core (followed (λ x. run_from core x w.0) c c r) w.1).0) s ∙ w.2)
    go more (Lacks k, d) s f = ([], i, ap (λ (r : Outcome × Configuration). r.0) s ∙ ap (λ (p : ℕ × Outcome). p.1) (same_Some (m, Lacks k) (n, Lacks l) f))
    go more (TooLong, d) s f = absurd (long_lacks (ap (λ (p : ℕ × Outcome). p.1) (same_Some (m, TooLong) (n, Lacks l) f)))

pub never_lacks : (core : CoreData) → Safe core → (list : List ℕ) (n : ℕ) (f : TraceFault) → f ≡ fault.Lacks n → TraceStops core list f → ⊥
never_lacks core safe list n f is stops =
    let s : TraceStops core list (fault.Lacks n) = subst (TraceStops core list) is stops in
    let w = lack_found core list (start core) 1 n s.0 s.1 in
    (safe w.0).lacks_nothing w.1 s.0 w.2
