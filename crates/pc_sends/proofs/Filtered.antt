-- The numbers below a number that have a property, in ascending order.
use Rattle.std.specs.Prelude.{◌≡◌, ◌⊎◌, ◌↔◌, ℕ, ◌+◌, ◌<◌, List, [], ◌∷◌, ◌++◌, length, Some, slice_get}
use Rattle.std.proofs.{Common.{inl, inr, subst, arith}, lemmas.Option.none-some, lemmas.Bool.cases_lt}
use Rattle.pc_base.specs.Lists.{Has, Ascends}
use Rattle.pc_base.proofs.{Elements.{ascends_none, has_front}, Gets.{get_push, get_behind, get_below}}

pub record Filtered (P : ℕ → Type 0) (n : ℕ) (xs : List ℕ) : Type 0 where
  pub ascends : Ascends xs
  pub exact : (d : ℕ) → (Has xs d) ↔ ((d < n) × P d)

pub filtered_none : (P : ℕ → Type 0) → Filtered P 0 []
filtered_none P = record { ascends = ascends_none; exact = λ d. (λ h. absurd (none-some d h.1), λ k. let l = k.0 in absurd (omega (arith, l))) }

-- The next number has the property, or does not have it.
push_ascends : (P : ℕ → Type 0) (n : ℕ) (xs : List ℕ) → Filtered P n xs → Ascends (xs ++ n ∷ [])
push_ascends P n xs f i j a b l e g = both (get_push xs n i a e) (get_push xs n j b g)
  where
    both : (slice_get xs i ≡ Some a) ⊎ ((i ≡ length xs) × (n ≡ a)) → (slice_get xs j ≡ Some b) ⊎ ((j ≡ length xs) × (n ≡ b)) → a < b
    both (inl x) (inl y) = f.ascends i j a b l x y
    both (inl x) (inr y) = let low = ((f.exact a).0 (i, x)).0 in let last = y.1 in omega (arith, low, last)
    both (inr x) (inl y) = let low = get_below xs j b y in let last = x.0 in absurd (omega (arith, low, last, l))
    both (inr x) (inr y) = let first = x.0 in let last = y.0 in absurd (omega (arith, first, last, l))

pub filtered_push : (P : ℕ → Type 0) (n : ℕ) (xs : List ℕ) → Filtered P n xs → P n → Filtered P (n + 1) (xs ++ n ∷ [])
filtered_push P n xs f p = record {
  ascends = push_ascends P n xs f;
  exact = λ d. (
    λ h. elim (get_push xs n h.0 d h.1) [
      | inl old ↦ let k = (f.exact d).0 (h.0, old) in let l = k.0 in (omega (arith, l), k.1)
      | inr last ↦ let same = last.1 in (omega (arith, same), subst P same p)
    ],
    λ k. elim (cases_lt d n) [
      | inl below ↦ has_front xs (n ∷ []) d ((f.exact d).1 (below, k.1))
      | inr high ↦ let l = k.0 in let same : n ≡ d = omega (arith, high, l) in subst (Has (xs ++ n ∷ [])) same (length xs, get_behind xs n [])
    ],
  );
}

pub filtered_skip : (P : ℕ → Type 0) (n : ℕ) (xs : List ℕ) → Filtered P n xs → (P n → ⊥) → Filtered P (n + 1) xs
filtered_skip P n xs f p = record {
  ascends = f.ascends;
  exact = λ d. (
    λ h. let k = (f.exact d).0 h in let l = k.0 in (omega (arith, l), k.1),
    λ k. elim (cases_lt d n) [
      | inl below ↦ (f.exact d).1 (below, k.1)
      | inr high ↦ let l = k.0 in let same : d ≡ n = omega (arith, high, l) in absurd (p (subst P same k.1))
    ],
  );
}

-- All numbers with the property are below n.
pub filtered_all : (P : ℕ → Type 0) (n : ℕ) (xs : List ℕ) → Filtered P n xs → ((d : ℕ) → P d → d < n) → (d : ℕ) → (Has xs d) ↔ (P d)
filtered_all P n xs f below d = (λ h. ((f.exact d).0 h).1, λ p. (f.exact d).1 (below d p, p))
