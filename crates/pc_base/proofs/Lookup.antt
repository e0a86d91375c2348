-- Laws of the place of an element by its name.
use Rattle.std.specs.Prelude.{◌≡◌, ℕ, zero, suc, ◌+◌, true, cond, List, [], ◌∷◌, Some, None, slice_get, refl}
use Rattle.std.proofs.{Common.{inl, inr, ap, eqb, sym, subst, ◌∙◌, arith}, lemmas.Option.{same_Some, none-some}, lemmas.Bool.eq-eqb, lemmas.Bool.Decides.eqb_tells}
use Rattle.pc_base.specs.Lists.{place_of}

-- A place that is found is that of an element with the name.
pub place_found : {T : Type 0} → (name_of : T → ℕ) (name : ℕ) (xs : List T) (at k : ℕ) → place_of name_of name xs at ≡ Some k → (i : ℕ) × (x : T) × (k ≡ at + i) × (slice_get xs i ≡ Some x) × (name_of x ≡ name)
place_found name_of name [] at k e = absurd (none-some k e)
place_found name_of name (x ∷ xs) at k e =
    elim (eqb_tells (name_of x) name) [
      | inl p ↦ let f : Some at ≡ Some k = subst (λ b. cond b (Some at) (place_of name_of name xs (at + 1)) ≡ Some k) p.0 e in
          let s = same_Some at k f in
          (0, x, omega (arith, s), refl, p.1)
      | inr p ↦ let f : place_of name_of name xs (at + 1) ≡ Some k = subst (λ b. cond b (Some at) (place_of name_of name xs (at + 1)) ≡ Some k) p.0 e in
          let r = place_found name_of name xs (at + 1) k f in
          let s = r.2 in
          (suc r.0, r.1, omega (arith, s), r.3, r.4)
    ]

-- If none is found there is no such element.
pub place_missed : {T : Type 0} → (name_of : T → ℕ) (name : ℕ) (xs : List T) (at : ℕ) → place_of name_of name xs at ≡ None → (i : ℕ) (x : T) → slice_get xs i ≡ Some x → name_of x ≡ name → ⊥
place_missed name_of name [] at e i x g same = none-some x g
place_missed name_of name (y ∷ ys) at e zero x g same =
    let it : eqb (name_of y) name ≡ true = eq-eqb (name_of y) name (ap name_of (same_Some y x g) ∙ same) in
    none-some at (sym (subst (λ b. cond b (Some at) (place_of name_of name ys (at + 1)) ≡ None) it e))
place_missed name_of name (y ∷ ys) at e (suc i) x g same =
    elim (eqb_tells (name_of y) name) [
      | inl p ↦ none-some at (sym (subst (λ b. cond b (Some at) (place_of name_of name ys (at + 1)) ≡ None) p.0 e))
      | inr p ↦ place_missed name_of name ys (at + 1) (subst (λ b. cond b (Some at) (place_of name_of name ys (at + 1)) ≡ None) p.0 e) i x g same
    ]
