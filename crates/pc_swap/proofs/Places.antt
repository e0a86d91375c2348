-- The turns at a place of a list, and the list with them exchanged.
use Rattle.std.proofs.Common.{◌≡◌, ℕ, suc, ◌+◌, ◌-◌, List, [], ◌∷◌, ◌++◌, length, get_or, take, refl, ap, ◌∙◌, arith}
use Rattle.std.specs.Prelude.{slice_set}

-- ---- after a front

front_taken : (front : List ℕ) (i j : ℕ) (rest : List ℕ) → take (length front) (front ++ i ∷ j ∷ rest) ≡ front
front_taken [] i j rest = refl
front_taken (x ∷ xs) i j rest = ap (λ ys. x ∷ ys) (front_taken xs i j rest)

first_behind : (front : List ℕ) (i j : ℕ) (rest : List ℕ) → get_or (front ++ i ∷ j ∷ rest) (length front) 0 ≡ i
first_behind [] i j rest = refl
first_behind (x ∷ xs) i j rest = first_behind xs i j rest

second_behind : (front : List ℕ) (i j : ℕ) (rest : List ℕ) → get_or (front ++ i ∷ j ∷ rest) (suc (length front)) 0 ≡ j
second_behind [] i j rest = refl
second_behind (x ∷ xs) i j rest = second_behind xs i j rest

both_set : (front : List ℕ) (i j : ℕ) (rest : List ℕ) → slice_set (slice_set (front ++ i ∷ j ∷ rest) (length front) j) (suc (length front)) i ≡ front ++ j ∷ i ∷ rest
both_set [] i j rest = refl
both_set (x ∷ xs) i j rest = ap (λ ys. x ∷ ys) (both_set xs i j rest)

-- ---- by the place, counted from 1

module _ (list front rest : List ℕ) (i j place : ℕ) (is : list ≡ front ++ i ∷ j ∷ rest) (at : place ≡ length front + 1) where
  before : place - 1 ≡ length front
  before = omega (arith, at)

  next : place ≡ suc (length front)
  next = omega (arith, at)

  pub taken : take (place - 1) list ≡ front
  taken = ap (λ n. take n list) before ∙ ap (take (length front)) is ∙ front_taken front i j rest

  pub first_turn : get_or list (place - 1) 0 ≡ i
  first_turn = ap (λ n. get_or list n 0) before ∙ ap (λ xs. get_or xs (length front) 0) is ∙ first_behind front i j rest

  pub second_turn : get_or list place 0 ≡ j
  second_turn = ap (λ n. get_or list n 0) next ∙ ap (λ xs. get_or xs (suc (length front)) 0) is ∙ second_behind front i j rest

  pub turns_exchanged : slice_set (slice_set list (place - 1) (get_or list place 0)) place (get_or list (place - 1) 0) ≡ front ++ j ∷ i ∷ rest
  turns_exchanged =
      ap (λ x. slice_set (slice_set list (place - 1) x) place (get_or list (place - 1) 0)) second_turn
      ∙ ap (λ x. slice_set (slice_set list (place - 1) j) place x) first_turn
      ∙ ap (λ n. slice_set (slice_set list n j) place i) before ∙ ap (λ n. slice_set (slice_set list (length front) j) n i) next
      ∙ ap (λ xs. slice_set (slice_set xs (length front) j) (suc (length front)) i) is ∙ both_set front i j rest
