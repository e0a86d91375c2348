-- The search in ascending tokens.
use Rattle.std.specs.Prelude.{◌≡◌, ◌<◌, ◌≤◌, ◌+◌, ◌-◌, ◌/◌, ℕ, zero, suc, cond, List, [], ◌∷◌, Some, find, nat_lt, slice_get, refl}
use Rattle.std.proofs.{Common.{inl, inr, ap, sym, subst, ◌∙◌, arith}, lemmas.Bool.{lt-ltb, le-ltb}, lemmas.Bool.Decides.leb_tells, lemmas.Option.same_Some}
use Rattle.pc_base.proofs.Gets.{get_map}
use Rattle.pc_base.specs.Lists.{Ascends}
use Rattle.pc_places.specs.Search.{IsAfter}
use Rattle.pc_text_order.specs.Laws.{starts}
use Rattle.pc_token.specs.declared.kinds.Token.{Token}

module _ (tokens : List Token) (ascend : Ascends (starts tokens)) (place middle : ℕ) (at : Token) (is : slice_get tokens middle ≡ Some at) where
  start_of : (k : ℕ) (t : Token) → slice_get tokens k ≡ Some t → slice_get (starts tokens) k ≡ Some t.span.start
  start_of k t e = get_map (λ (x : Token). x.span.start) tokens k t e

  -- Tokens up to the one in the middle start no later.
  pub lower_half : at.span.start ≤ place → (k : ℕ) (t : Token) → k < middle + 1 → slice_get tokens k ≡ Some t → t.span.start ≤ place
  lower_half low k t l e =
      elim (leb_tells middle k) [
        | inl s ↦
            let b = s.1 in
            let same : k ≡ middle = omega (arith, b, l) in
            subst (λ (x : Token). x.span.start ≤ place) (same_Some at t (sym is ∙ ap (slice_get tokens) (sym same) ∙ e)) low
        | inr s ↦
            let rises = ascend k middle t.span.start at.span.start s.1 (start_of k t e) (start_of middle at is) in
            omega (arith, rises, low)
      ]

  -- Tokens from it on start no earlier.
  pub upper_half : place < at.span.start → (k : ℕ) (t : Token) → middle ≤ k → slice_get tokens k ≡ Some t → place < t.span.start
  upper_half high k t l e =
      elim (leb_tells k middle) [
        | inl s ↦
            let b = s.1 in
            let same : k ≡ middle = omega (arith, b, l) in
            subst (λ (x : Token). place < x.span.start) (same_Some at t (sym is ∙ ap (slice_get tokens) (sym same) ∙ e)) high
        | inr s ↦
            let rises = ascend middle k at.span.start t.span.start s.1 (start_of middle at is) (start_of k t e) in
            omega (arith, rises, high)
      ]

-- The first token after a place is the one after those that start no later.
pub found_after : (tokens : List Token) (place count : ℕ) → IsAfter tokens place count → find (λ t. nat_lt place t.span.start) tokens ≡ slice_get tokens count
found_after [] place count h = refl
found_after (t ∷ ts) place zero h = ap (λ b. cond b (Some t) (find (λ u. nat_lt place u.span.start) ts)) (lt-ltb place t.span.start (h.after 0 t (omega arith) refl))
found_after (t ∷ ts) place (suc count) h =
    ap (λ b. cond b (Some t) (find (λ u. nat_lt place u.span.start) ts)) (le-ltb place t.span.start (h.before 0 t (omega arith) refl))
    ∙ found_after ts place count (record {
      before = λ k u l e. h.before (suc k) u (omega (arith, l)) e;
      after = λ k u l e. h.after (suc k) u (omega (arith, l)) e;
    })

pub middle_below : (low high : ℕ) → low < high → low + (high - low) / 2 < high
middle_below low high l = omega (arith, l)
