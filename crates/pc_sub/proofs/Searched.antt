-- What a search in ascending numbers has found.
use Rattle.std.specs.{Prelude.{◌≡◌, ◌⊎◌, ◌↔◌, ℕ, zero, suc, ◌<◌, ◌≤◌, List, [], ◌∷◌, length, Some, Result, Ok, Err, IsTrue, slice_get, refl}, Result.is_ok, List.Sorted.IsBinarySearchResult, Ordering.nat_cmp}
use Rattle.std.proofs.{Common.{inl, inr, get_or, sym, ap, subst, ◌∙◌, arith}, lemmas.List.Sorted.searched, lemmas.Option.same_Some}
use Rattle.pc_base.specs.Lists.{Ascends, Has}
use Rattle.pc_base.proofs.{Bools.false_true, Gets.get_below}

got : (xs : List ℕ) (i : ℕ) → i < length xs → slice_get xs i ≡ Some (get_or xs i 0)
got [] i l = absurd (omega (arith, l))
got (x ∷ xs) zero l = refl
got (x ∷ xs) (suc i) l = let m : i < length xs = omega (arith, l) in got xs i m

rises : (xs : List ℕ) → Ascends xs → (i j : ℕ) → i ≤ j → j < length xs → get_or xs i 0 ≤ get_or xs j 0
rises xs a i j l m =
    elim (nat_split i j l) [
      | inl less ↦ let low : i < length xs = omega (arith, less, m) in let k = a i j (get_or xs i 0) (get_or xs j 0) less (got xs i low) (got xs j m) in omega (arith, k)
      | inr same ↦ let k : get_or xs i 0 ≡ get_or xs j 0 = ap (λ n. get_or xs n 0) same in omega (arith, k)
    ]
  where
    nat_split : (i j : ℕ) → i ≤ j → (i < j) ⊎ (i ≡ j)
    nat_split zero zero l = inr refl
    nat_split zero (suc j) l = inl (omega arith)
    nat_split (suc i) zero l = absurd (omega (arith, l))
    nat_split (suc i) (suc j) l =
        let m : i ≤ j = omega (arith, l) in
        elim (nat_split i j m) [ inl less ↦ inl (omega (arith, less)) | inr same ↦ inr (ap suc same) ]

found : (xs : List ℕ) (x : ℕ) (r : Result ℕ ℕ) (i : ℕ) → Ascends xs → IsBinarySearchResult (λ y. nat_cmp y x) xs r → r ≡ Ok i → Has xs x
found xs x r i a s e =
    let k = searched xs x (Ok i) (subst (IsBinarySearchResult (λ y. nat_cmp y x) xs) e s) (rises xs a) in
    (i, got xs i k.0 ∙ ap Some k.1)

missed : (xs : List ℕ) (x : ℕ) (r : Result ℕ ℕ) (i : ℕ) → Ascends xs → IsBinarySearchResult (λ y. nat_cmp y x) xs r → r ≡ Err i → Has xs x → ⊥
missed xs x r i a s e h =
    let k = searched xs x (Err i) (subst (IsBinarySearchResult (λ y. nat_cmp y x) xs) e s) (rises xs a) in
    let low = get_below xs h.0 x h.1 in
    let at : get_or xs h.0 0 ≡ x = same_Some (get_or xs h.0 0) x (sym (got xs h.0 low) ∙ h.1) in
    elim (split h.0 i) [
      | inl less ↦ let m = k.1 h.0 less in omega (arith, m, at)
      | inr more ↦ let m = k.2 h.0 more low in omega (arith, m, at)
    ]
  where
    split : (i j : ℕ) → (i < j) ⊎ (j ≤ i)
    split i zero = inr (omega arith)
    split zero (suc j) = inl (omega arith)
    split (suc i) (suc j) = elim (split i j) [ inl less ↦ inl (omega (arith, less)) | inr more ↦ inr (omega (arith, more)) ]

-- A search in ascending numbers finds exactly the numbers that are there.
pub exact : (xs : List ℕ) (x : ℕ) (r : Result ℕ ℕ) → Ascends xs → IsBinarySearchResult (λ y. nat_cmp y x) xs r → (IsTrue (is_ok r)) ↔ (Has xs x)
exact xs x (Ok i) a s = (λ t. found xs x (Ok i) i a s refl, λ h. refl)
exact xs x (Err i) a s = (λ t. absurd (false_true t), λ h. absurd (missed xs x (Err i) i a s refl h))
