-- Lists in order with the same elements are equal.
use Rattle.std.proofs.{Common.{◌≡◌, ◌<◌, ℕ, zero, suc, List, [], ◌∷◌, Some, refl, sym, ap₂, ◌∙◌, subst, arith}, lemmas.Option.{none-some, same_Some}}
use Rattle.std.specs.Prelude.{slice_get}
use Rattle.pc_base.specs.Lists.{Has}

module _ {T : Type 0} (Less : T → T → Type 0) (apart : (a b : T) → Less a b → Less b a → ⊥) where
  abbrev InOrder : List T → Type 0
  InOrder xs = (i j : ℕ) (a b : T) → i < j → slice_get xs i ≡ Some a → slice_get xs j ≡ Some b → Less a b

  abbrev Within : List T → List T → Type 0
  Within xs ys = (x : T) → Has xs x → Has ys x

  order_tail : (x : T) (xs : List T) → InOrder (x ∷ xs) → InOrder xs
  order_tail x xs h i j a b l e f = h (suc i) (suc j) a b (omega (arith, l)) e f

  -- an element of a list is its first, or one of those after it
  first_less : (x : T) (xs : List T) (b : T) → InOrder (x ∷ xs) → Has xs b → Less x b
  first_less x xs b h m = h 0 (suc m.0) x b (omega arith) refl m.1

  heads_at : (x y : T) (xs ys : List T) (i j : ℕ) → InOrder (x ∷ xs) → InOrder (y ∷ ys) → slice_get (y ∷ ys) i ≡ Some x → slice_get (x ∷ xs) j ≡ Some y → x ≡ y
  heads_at x y xs ys zero j hx hy e f = sym (same_Some y x e)
  heads_at x y xs ys (suc i) zero hx hy e f = same_Some x y f
  heads_at x y xs ys (suc i) (suc j) hx hy e f = absurd (apart x y (first_less x xs y hx (j, f)) (first_less y ys x hy (i, e)))

  tail_at : (x y : T) (xs ys : List T) (b : T) (i : ℕ) → x ≡ y → Less x b → slice_get (y ∷ ys) i ≡ Some b → Has ys b
  tail_at x y xs ys b zero e l f =
      let same : x ≡ b = e ∙ same_Some y b f in
      let own : Less b b = subst (λ (z : T). Less z b) same l in
      absurd (apart b b own own)
  tail_at x y xs ys b (suc i) e l f = (i, f)

  tails_within : (x y : T) (xs ys : List T) → x ≡ y → InOrder (x ∷ xs) → Within (x ∷ xs) (y ∷ ys) → Within xs ys
  tails_within x y xs ys e hx s b m = let t = s b (suc m.0, m.1) in tail_at x y xs ys b t.0 e (first_less x xs b hx m) t.1

  pub order_one : (xs ys : List T) → InOrder xs → InOrder ys → Within xs ys → Within ys xs → xs ≡ ys
  order_one [] [] hx hy s r = refl
  order_one [] (y ∷ ys) hx hy s r = let m = r y (0, refl) in absurd (none-some y m.1)
  order_one (x ∷ xs) [] hx hy s r = let m = s x (0, refl) in absurd (none-some x m.1)
  order_one (x ∷ xs) (y ∷ ys) hx hy s r =
      let there = s x (0, refl) in
      let back = r y (0, refl) in
      let e : x ≡ y = heads_at x y xs ys there.0 back.0 hx hy there.1 back.1 in
      let rest : xs ≡ ys = order_one xs ys (order_tail x xs hx) (order_tail y ys hy) (tails_within x y xs ys e hx s) (tails_within y x ys xs (sym e) hy r) in
      ap₂ (λ (z : T) (zs : List T). z ∷ zs) e rest

pub less_apart : (a b : ℕ) → a < b → b < a → ⊥
less_apart a b l m = omega (arith, l, m)
