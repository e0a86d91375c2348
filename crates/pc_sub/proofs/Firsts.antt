-- The first element of a list that does not have a property; and, of faults that are looked for element by element, the
-- first.
use Rattle.std.specs.Prelude.{◌≡◌, ◌⊎◌, ◌↔◌, ℕ, zero, suc, ◌+◌, ◌<◌, List, [], ◌∷◌, ◌++◌, Some, None, slice_get, refl}
use Rattle.std.proofs.{Common.{inl, inr, ap, sym, subst, ◌∙◌, arith}, lemmas.Bool.cases_lt, lemmas.Option.{same_Some, none-some}}
use Rattle.pc_sub.specs.{FirstFault.FirstWithout, declared.faults.DeclFault.DeclFault}

-- ---- there is at most one

pub first_once : {T : Type 0} (P : ℕ → T → Type 0) (xs : List T) (i j : ℕ) (x y : T) → FirstWithout P xs i x → FirstWithout P xs j y → i ≡ j
first_once P xs i j x y h k =
    elim (cases_lt i j) [
      | inl l ↦ absurd (h.1 (k.2 i x l h.0))
      | inr m ↦ elim (cases_lt j i) [ inl l ↦ absurd (k.1 (h.2 j y l k.0)) | inr n ↦ omega (arith, m, n) ]
    ]

pub first_same : {T : Type 0} (P : ℕ → T → Type 0) (xs : List T) (i j : ℕ) (x y : T) → FirstWithout P xs i x → FirstWithout P xs j y → x ≡ y
first_same P xs i j x y h k = let e : i ≡ j = first_once P xs i j x y h k in same_Some x y (sym h.0 ∙ ap (slice_get xs) e ∙ k.0)

-- ---- behind an element that has it

all_before : {T : Type 0} (P : ℕ → T → Type 0) (x : T) (xs : List T) (i : ℕ) → P 0 x → ((j : ℕ) (y : T) → j < i → slice_get xs j ≡ Some y → P (suc j) y)
    → (j : ℕ) (y : T) → j < suc i → slice_get (x ∷ xs) j ≡ Some y → P j y
all_before P x xs i p h zero y l g = subst (P 0) (same_Some x y g) p
all_before P x xs i p h (suc j) y l g = h j y (omega (arith, l)) g

behind : {T : Type 0} (P : ℕ → T → Type 0) (x : T) (xs : List T) (i : ℕ) (y : T) → P 0 x → FirstWithout (λ j. P (suc j)) xs i y → FirstWithout P (x ∷ xs) (suc i) y
behind P x xs i y p h = (h.0, h.1, all_before P x xs i p h.2)

-- ---- faults

-- The first fault of two lists, one after the other.
pub either : (fs gs : List DeclFault) (d : DeclFault) → slice_get (fs ++ gs) 0 ≡ Some d → (slice_get fs 0 ≡ Some d) ⊎ ((slice_get fs 0 ≡ None) × (slice_get gs 0 ≡ Some d))
either [] gs d e = inr (refl, e)
either (f ∷ fs) gs d e = inl e

-- Lists of faults for the elements of a list, which are numbered from a number on, one after the other.
module _ (T : Type 0) (own : ℕ → T → List DeclFault) (all : ℕ → List T → List DeclFault) (none : (n : ℕ) → all n [] ≡ [])
    (more : (n : ℕ) (x : T) (xs : List T) → all n (x ∷ xs) ≡ own n x ++ all (n + 1) xs) where
  -- The first fault is one of the first element without a property, if that is to have no fault.
  pub first_element : (n : ℕ) (xs : List T) (d : DeclFault) (P : ℕ → T → Type 0) → ((i : ℕ) (x : T) → (slice_get (own (n + i) x) 0 ≡ None) ↔ P i x)
      → slice_get (all n xs) 0 ≡ Some d → (i : ℕ) × (x : T) × FirstWithout P xs i x × (slice_get (own (n + i) x) 0 ≡ Some d)
  first_element n [] d P clean e = absurd (none-some d (sym (ap (λ (fs : List DeclFault). slice_get fs 0) (none n)) ∙ e))
  first_element n (x ∷ xs) d P clean e =
      elim (either (own n x) (all (n + 1) xs) d (sym (ap (λ (fs : List DeclFault). slice_get fs 0) (more n x xs)) ∙ e)) [
        | inl h ↦
            let at : n ≡ n + 0 = omega arith in
            let k : slice_get (own (n + 0) x) 0 ≡ Some d = subst (λ m. slice_get (own m x) 0 ≡ Some d) at h in
            (0, x, (refl, λ p. none-some d (sym ((clean 0 x).1 p) ∙ k), λ j y l g. absurd (omega (arith, l))), k)
        | inr h ↦
            let at : n ≡ n + 0 = omega arith in
            let right : P 0 x = (clean 0 x).0 (subst (λ m. slice_get (own m x) 0 ≡ None) at h.0) in
            let r = first_element (n + 1) xs d (λ i. P (suc i)) (λ i y.
            let next : n + 1 + i ≡ n + suc i = omega arith in
            subst (λ m. (slice_get (own m y) 0 ≡ None) ↔ P (suc i) y) (sym next) (clean (suc i) y)) h.1 in
            let there : n + 1 + r.0 ≡ n + suc r.0 = omega arith in
            (suc r.0, r.1, behind P x xs r.0 r.1 right r.2, subst (λ m. slice_get (own m r.1) 0 ≡ Some d) there r.3)
      ]
