-- A run never has fewer actors than before, and so one that made too many has too many at its end.
use Rattle.std.proofs.{Common.{◌≡◌, ◌≤◌, ◌<◌, ◌+◌, ℕ, suc, List, [], ◌∷◌, length, drop, inl, inr, refl, sym, ap, ◌∙◌, subst, arith}, lemmas.Bool.Decides.leb_tells, lemmas.List.take-append-drop, lemmas.Option.same_Some}
use Rattle.pc_semantics.specs.{declared.ahead.Ahead.Ahead, Configurations.{Configuration, start}, Step.{after, followed, run_from, step}, declared.outcome.Outcome.Outcome, declared.outcome.Outcome.TheVariants.{Moved, Skipped, Lacks, TooLong}}
use Rattle.pc_semantics.specs.declared.ahead.Ahead.TheVariants as ahead
use Rattle.pc_events.specs.Before.{at_place}
use Rattle.pc_events.proofs.{Boxes.{Boxes, boxes}, Outcomes.{earlier, goes_on, turn}, Totals.{actors_rise, moving}, Changes.{acted, applied}, Kept.count_grows, Pass.length_acted, Plans.{plans, step_is}}
use Rattle.pc_core.specs.CoreData.{CoreData}
use Rattle.pc_base.proofs.Cuts.{drop_item}
use Rattle.pc_trace.specs.Traces.{TooManyAt}

-- ---- no step makes them fewer

self : (n : ℕ) → n ≤ n
self n = omega arith

through : (x y z : ℕ) → x ≤ y → y ≤ z → x ≤ z
through x y z p q = omega (arith, p, q)

moved_rises : (core : CoreData) (c d : Configuration) (i : ℕ) → step core c i ≡ (Moved, d) → length c.actors ≤ length d.actors
moved_rises core c d i e =
    let x = plans core c i (ap (λ (r : Outcome × Configuration). r.0) e) in
    let same : applied c i x.0 ≡ d = ap (λ (r : Outcome × Configuration). r.1) (sym (step_is core c i x.0 x.1) ∙ e) in
    subst (λ (n : Configuration). length c.actors ≤ length n.actors) same (count_grows x.0.spawns (acted i x.0 c.actors) c.actors (length_acted i x.0 c.actors))

run_rises : (core : CoreData) (list : List ℕ) (c : Configuration) → length c.actors ≤ length (run_from core c list).actors
run_rises core [] c = self (length c.actors)
run_rises core (i ∷ is) c = go (step core c i) refl (λ d. run_rises core is d)
  where
    go : (r : Outcome × Configuration) → step core c i ≡ r → ((d : Configuration) → length d.actors ≤ length (run_from core d is).actors)
        → length c.actors ≤ length (followed (λ d. run_from core d is) c c r).actors
    go (Moved, d) e more = through (length c.actors) (length d.actors) (length (run_from core d is).actors) (moved_rises core c d i e) (more d)
    go (Skipped, d) e more = more c
    go (Lacks l, d) e more = self (length c.actors)
    go (TooLong, d) e more = self (length c.actors)

-- ---- if one too many is made

one_above : (n m k : ℕ) → m ≡ suc n → n ≡ 64 → m ≤ k → 64 < k
one_above n m k e f l = omega (arith, e, f, l)

module _ (core : CoreData) (list : List ℕ) where
  -- They are too many at the end.
  pub crowded : (n : ℕ) → TooManyAt core list n → 64 < length (after core list).actors
  crowded n m =
      let here : Configuration = at_place core list m.p in
      let t = turn core list (start core) m.p Moved m.event.moved in
      let same : t.actor ≡ m.i = same_Some t.actor m.i (sym t.is ∙ m.event.actor) in
      let moves : (step core here m.i).0 ≡ Moved = subst (λ (k : ℕ). (step core here k).0 ≡ Moved) same t.ends in
      let x = plans core here m.i moves in
      let next : Configuration = applied here m.i x.0 in
      let rest : List ℕ = drop (m.p + 1) list in
      let spawned : Boxes here next m.i ahead.Spawn = subst (λ (h : Ahead). Boxes here next m.i h) m.spawns (boxes core here m.i x.0 x.1) in
      let whole : after core list ≡ run_from core next rest =
      ap (after core) (sym (take-append-drop m.p list)) ∙ goes_on core list (start core) m.p Moved m.event.moved (drop m.p list)
      ∙ ap (run_from core here) (drop_item list m.p m.i m.event.actor) ∙ ap (followed (λ d. run_from core d rest) here here) (step_is core here m.i x.0 x.1) in
      subst (λ (c : Configuration). 64 < length c.actors) (sym whole)
      (one_above (length here.actors) (length next.actors) (length (run_from core next rest).actors) spawned.0 m.full (run_rises core rest next))

  -- Not twice: after the first such place there are more than at the second.
  not_later : (n k : ℕ) (m : TooManyAt core list n) (o : TooManyAt core list k) → m.p < o.p → ⊥
  not_later n k m o l =
      let b = (moving core list m.p m.i m.event).boxes in
      let spawned : Boxes (at_place core list m.p) (at_place core list (suc m.p)) m.i ahead.Spawn =
      subst (λ (h : Ahead). Boxes (at_place core list m.p) (at_place core list (suc m.p)) m.i h) m.spawns b in
      let up = actors_rise core list (suc m.p) o.p (λ q s. earlier core list (start core) q o.p Moved o.event.moved s) (next_low m.p o.p l) in
      apart (length (at_place core list m.p).actors) (length (at_place core list (suc m.p)).actors) (length (at_place core list o.p).actors) spawned.0 m.full up o.full
    where
      next_low : (p q : ℕ) → p < q → suc p ≤ q
      next_low p q l = omega (arith, l)

      apart : (n m k : ℕ) → m ≡ suc n → n ≡ 64 → m ≤ k → k ≡ 64 → ⊥
      apart n m k e f l g = omega (arith, e, f, l, g)

  pub one_crowd : (n k : ℕ) → TooManyAt core list n → TooManyAt core list k → n ≡ k
  one_crowd n k m o =
      elim (leb_tells m.p o.p) [
        | inl s ↦
            elim (leb_tells o.p m.p) [
              | inl r ↦ same n k m.p o.p m.place o.place s.1 r.1
              | inr r ↦ absurd (not_later n k m o r.1)
            ]
        | inr s ↦ absurd (not_later k n o m s.1)
      ]
    where
      same : (n k p q : ℕ) → n ≡ suc p → k ≡ suc q → p ≤ q → q ≤ p → n ≡ k
      same n k p q e f l h = omega (arith, e, f, l, h)
