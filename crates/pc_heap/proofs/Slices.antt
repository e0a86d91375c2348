-- Parts of a list, and single values in it.
use Rattle.std.proofs.{Common.{◌≡◌, ℕ, zero, suc, ◌+◌, ◌-◌, ◌<◌, ◌≤◌, List, [], ◌∷◌, ◌++◌, length, take, drop, set, slice_get, Some, None, refl, sym, ap, ◌∙◌, arith, length-append, length-take, length-drop}, lemmas.List.{take-set-le, drop-set-lt, drop-set-add, take-append-le, drop-append-le}, lemmas.Option.slice_get_past, Math.Seq.{take-set-lt, drop-append_seam, take-length}}
use Rattle.pc_arena.proofs.Chunked.{get_within}
use Rattle.pc_base.proofs.Gets.{get_behind}

module _ {X : Type 0} where
  -- n values from m on
  abbrev pub part : ℕ → ℕ → List X → List X
  part m n xs = take n (drop m xs)

  pub get_part : (m n : ℕ) (xs : List X) (i : ℕ) → i < n → slice_get (part m n xs) i ≡ slice_get xs (m + i)
  get_part m n xs i h = get_within m n xs i h

  pub get_outside : (m n : ℕ) (xs : List X) (i : ℕ) → n ≤ i → slice_get (part m n xs) i ≡ None
  get_outside m n xs i h = slice_get_past (part m n xs) i (omega (arith, length-take n (drop m xs)))

  pub set_before : (m n : ℕ) (xs : List X) (k : ℕ) (x : X) → k < m → part m n (set xs k x) ≡ part m n xs
  set_before m n xs k x h = ap (take n) (drop-set-lt m xs k x h)

  pub set_after : (m n : ℕ) (xs : List X) (k : ℕ) (x : X) → m + n ≤ k → part m n (set xs k x) ≡ part m n xs
  set_after m n xs k x h = let j = k - m in let is : m + j ≡ k = omega arith in
      ap (λ i. part m n (set xs i x)) (sym is) ∙ ap (take n) (drop-set-add m xs j x) ∙ take-set-le n (drop m xs) j x (omega arith)

  pub set_inside : (m n : ℕ) (xs : List X) (j : ℕ) (x : X) → j < n → part m n (set xs (m + j) x) ≡ set (part m n xs) j x
  set_inside m n xs j x h = ap (take n) (drop-set-add m xs j x) ∙ take-set-lt n (drop m xs) j x h

  pub part_append : (m n : ℕ) (xs ys : List X) → m + n ≤ length xs → part m n (xs ++ ys) ≡ part m n xs
  part_append m n xs ys h = let left = length-drop m xs in ap (take n) (drop-append-le m xs ys (omega arith)) ∙ take-append-le n (drop m xs) ys (omega arith)

  pub part_new : (n : ℕ) (xs ys : List X) → n ≡ length ys → part (length xs) n (xs ++ ys) ≡ ys
  part_new n xs ys e = ap (take n) (drop-append_seam xs ys) ∙ ap (λ i. take i ys) e ∙ take-length ys

  -- one value more at the end
  pub get_old : (xs : List X) (x : X) (i : ℕ) → i < length xs → slice_get (xs ++ x ∷ []) i ≡ slice_get xs i
  get_old [] x i h = absurd (omega arith)
  get_old (y ∷ xs) x zero h = refl
  get_old (y ∷ xs) x (suc i) h = get_old xs x i (omega arith)

  pub get_new : (xs : List X) (x : X) (i : ℕ) → i ≡ length xs → slice_get (xs ++ x ∷ []) i ≡ Some x
  get_new xs x i e = ap (slice_get (xs ++ x ∷ [])) e ∙ get_behind xs x []

  pub get_far : (xs : List X) (x : X) (i : ℕ) → length xs < i → slice_get (xs ++ x ∷ []) i ≡ None
  get_far xs x i h = slice_get_past (xs ++ x ∷ []) i (omega (arith, length-append xs (x ∷ [])))
