-- Any two verdicts on a trace are equal: there is only one list of the accesses of a run.
use Rattle.std.proofs.{Common.{◌≡◌, ◌≤◌, ◌<◌, ℕ, suc, List, [], ◌∷◌, length, Some, Ok, Err, refl, sym, ap, ap₂, ◌∙◌, subst, arith}, lemmas.Option.{none-some, same_Some}}
use Rattle.std.specs.Prelude.{slice_get}
use Rattle.pc_events.specs.{Before.at_place, Clock.{Clocks, Many}}
use Rattle.pc_core.specs.CoreData.{CoreData}
use Rattle.pc_base.specs.Lists.{Has, Text}
use Rattle.pc_semantics.specs.{Step.{after, outcomes}, Safety.access, Text.end_of, declared.access.Access.Access}
use Rattle.pc_semantics.specs.declared.outcome.Outcome.TheVariants as outcome
use Rattle.pc_trace.specs.{Traces.{AllTouches, TooManyAt, TouchAt, actor_limit}, declared.touch.Touch.Touch}
use Rattle.pc_refusals.specs.{Ends.HasOneEnd, Verdict.refused}
use Rattle.pc_refusal_lines.specs.Lines.{many_actors_line, too_long_line}
use Rattle.pc_run_events.specs.Lines.{trace_text}
use Rattle.pc_commands.specs.{Trace.Tracing, Trace.Tracing.{tells, too_long, too_many}}
use Rattle.pc_commands.proofs.{Crowding.{crowded, one_crowd}, InOrder.{less_apart, order_one}, RunEnds.step_same}

-- ---- clocks

-- How many numbers have a property is one number.
one_many : (P : ℕ → Type 0) (n m : ℕ) → Many P n → Many P m → n ≡ m
one_many P n m a b =
    let same : a.which ≡ b.which =
    order_one (λ (x y : ℕ). x < y) less_apart a.which b.which a.ascends b.ascends (λ x h. b.all x (a.have h.0 x h.1)) (λ x h. a.all x (b.have h.0 x h.1)) in
    sym a.count ∙ ap (λ (l : List ℕ). length l) same ∙ b.count

-- Lists of one length with equal numbers at equal places.
lists_same : (xs ys : List ℕ) → length xs ≡ length ys → ((i x y : ℕ) → slice_get xs i ≡ Some x → slice_get ys i ≡ Some y → x ≡ y) → xs ≡ ys
lists_same [] [] e h = refl
lists_same [] (y ∷ ys) e h = absurd (omega (arith, e))
lists_same (x ∷ xs) [] e h = absurd (omega (arith, e))
lists_same (x ∷ xs) (y ∷ ys) e h =
    ap₂ (λ (z : ℕ) (zs : List ℕ). z ∷ zs) (h 0 x y refl refl) (lists_same xs ys (less_one (length xs) (length ys) e) (λ i a b p q. h (suc i) a b p q))
  where
    less_one : (n m : ℕ) → suc n ≡ suc m → n ≡ m
    less_one n m e = omega (arith, e)

pub one_clock : (core : CoreData) (list : List ℕ) (p : ℕ) (xs ys : List ℕ) → Clocks core list p xs → Clocks core list p ys → xs ≡ ys
one_clock core list p xs ys a b = lists_same xs ys (a.actors ∙ sym b.actors) (λ i x y e f. one_many _ x y (a.each i x e) (b.each i y f))

-- ---- accesses

access_of : Touch → Access
access_of t = record { address = t.address; field = t.field; write = t.write }

with_access : ℕ → ℕ → Access → List ℕ → Touch
with_access p i x c = record { place = p; actor = i; address = x.address; field = x.field; write = x.write; clock = c }

touch_same : (t u : Touch) → t.place ≡ u.place → t.actor ≡ u.actor → access_of t ≡ access_of u → t.clock ≡ u.clock → t ≡ u
unfolding access_of with_access
touch_same t u e f g h =
    ap (λ (p : ℕ). with_access p t.actor (access_of t) t.clock) e ∙ ap (λ (i : ℕ). with_access u.place i (access_of t) t.clock) f
    ∙ ap (λ (x : Access). with_access u.place u.actor x t.clock) g ∙ ap (λ (c : List ℕ). with_access u.place u.actor (access_of u) c) h

one_touch : (core : CoreData) (list : List ℕ) (p : ℕ) (t u : Touch) → t.place ≡ u.place → TouchAt core list p t → TouchAt core list p u → t ≡ u
unfolding access_of
one_touch core list p t u e a b =
    let actor : t.actor ≡ u.actor = same_Some t.actor u.actor (sym a.event.actor ∙ b.event.actor) in
    let both : Some (access_of t) ≡ Some (access_of u) = sym a.touches ∙ ap (λ (i : ℕ). access core (at_place core list p) i) actor ∙ b.touches in
    touch_same t u e actor (same_Some (access_of t) (access_of u) both) (one_clock core list p t.clock u.clock a.clock b.clock)

module _ (core : CoreData) (list : List ℕ) where
  within : (xs ys : List Touch) → AllTouches core list xs → AllTouches core list ys → (t : Touch) → Has xs t → Has ys t
  unfolding access_of
  within xs ys a b t h =
      let r = a.each h.0 t h.1 in
      let found = b.all r.0 t.actor (access_of t) r.2.event r.2.touches in
      let u = found.1 in
      let s = b.each found.0 u found.2 in
      let places : r.0 ≡ s.0 = before (r.0) (s.0) u.place found.3 s.1 in
      let there : TouchAt core list r.0 u = subst (λ (p : ℕ). TouchAt core list p u) (sym places) s.2 in
      let same : t ≡ u = one_touch core list r.0 t u (r.1 ∙ sym found.3) r.2 there in
      (found.0, found.2 ∙ ap (λ (x : Touch). Some x) (sym same))
    where
      before : (p q n : ℕ) → n ≡ suc p → n ≡ suc q → p ≡ q
      before p q n e f = omega (arith, e, f)

  apart : (t u : Touch) → t.place < u.place → u.place < t.place → ⊥
  apart t u l m = less_apart t.place u.place l m

  one_list : (xs ys : List Touch) → AllTouches core list xs → AllTouches core list ys → xs ≡ ys
  one_list xs ys a b = order_one (λ (t u : Touch). t.place < u.place) apart xs ys a.order b.order (within xs ys a b) (within ys xs b a)

  -- ---- the verdict

  pub crowd_apart : (n : ℕ) → TooManyAt core list n → length (after core list).actors ≤ actor_limit → ⊥
  crowd_apart n m few = let many = crowded core list n m in omega (arith, many, few)

  pub one_tracing : (name : Text) → HasOneEnd (Tracing name core list)
  one_tracing name _ _ (tells xs x h e) (tells ys y k f) = ap (λ (text : Text). Ok text) (e ∙ ap trace_text (one_list xs ys h.1 k.1) ∙ sym f)
  one_tracing name _ _ (tells xs x h e) (too_long n k) = absurd (none-some (n, outcome.TooLong) (sym h.0.goes_on ∙ k.0))
  one_tracing name _ _ (tells xs x h e) (too_many n k) = absurd (crowd_apart n k h.0.few)
  one_tracing name _ _ (too_long n h) (tells ys y k f) = absurd (none-some (n, outcome.TooLong) (sym k.0.goes_on ∙ h.0))
  one_tracing name _ _ (too_long n h) (too_long m k) = ap (λ (x : ℕ). Err (refused 12 (too_long_line name x))) (step_same n m (end_of (outcomes core list)) h.0 k.0)
  one_tracing name _ _ (too_long n h) (too_many m k) = absurd (crowd_apart m k h.1)
  one_tracing name _ _ (too_many n h) (tells ys y k f) = absurd (crowd_apart n h k.0.few)
  one_tracing name _ _ (too_many n h) (too_long m k) = absurd (crowd_apart n h k.1)
  one_tracing name _ _ (too_many n h) (too_many m k) = ap (λ (x : ℕ). Err (refused 8 (many_actors_line name x))) (one_crowd core list n m h k)
