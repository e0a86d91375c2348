-- Values in chunks that are filled in order: which chunk has the value at a place, and how a write to a chunk changes
-- the values.
use Rattle.std.proofs.{Common.{◌≡◌, ℕ, zero, suc, ◌+◌, ◌*◌, ◌<◌, ◌≤◌, List, [], ◌∷◌, ◌++◌, length, take, drop, set, get_or, replicate, slice_get, refl, sym, ap, ◌∙◌, arith, length-append, length-take, length-drop}, lemmas.List.{take-set-le, drop-set-lt, drop-set-add, take-append-drop, take-append-le, drop-append-le, take_all}, Math.Seq.{take-set-lt, drop-drop, drop-nil}}
use native.Mathlib.Nat.{zero-mul, suc-mul}
use Rattle.pc_arena.specs.Arenas.{joined, chunked}

nothing_left : {X : Type 0} (xs : List X) → length xs ≤ 0 → xs ≡ []
nothing_left [] h = refl
nothing_left (x ∷ xs) h = absurd (omega arith)

take_nothing : {X : Type 0} (p : ℕ) → let none : List X = [] in take p none ≡ none
take_nothing zero = refl
take_nothing (suc p) = refl

drop_all : {X : Type 0} (p : ℕ) (xs : List X) → length xs ≤ p → drop p xs ≡ []
drop_all p xs h = nothing_left (drop p xs) (omega (arith, length-drop p xs))

-- the values from the m-th on, n of them, one by one
pub get_within : {X : Type 0} (m n : ℕ) (xs : List X) (i : ℕ) → i < n → slice_get (take n (drop m xs)) i ≡ slice_get xs (m + i)
get_within m zero xs i h = absurd (omega arith)
get_within zero (suc n) [] i h = refl
get_within zero (suc n) (x ∷ xs) zero h = refl
get_within zero (suc n) (x ∷ xs) (suc i) h = let next : suc (0 + i) ≡ 0 + suc i = omega arith in get_within zero n xs i (omega arith) ∙ ap (slice_get (x ∷ xs)) next
get_within (suc m) (suc n) [] i h = refl
get_within (suc m) (suc n) (x ∷ xs) i h = let next : suc (m + i) ≡ suc m + i = omega arith in get_within m (suc n) xs i h ∙ ap (slice_get (x ∷ xs)) next

module _ {X : Type 0} (p : ℕ) where
  -- what the q-th chunk holds
  abbrev pub part : ℕ → List X → List X
  part q xs = take p (drop (q * p) xs)

  next_part : (q : ℕ) (xs : List X) → part q (drop p xs) ≡ part (suc q) xs
  next_part q xs = let more : p + q * p ≡ suc q * p = let m = suc-mul q p in omega arith in ap (take p) (drop-drop (q * p) p xs ∙ ap (λ k. drop k xs) more)

  first_part : (xs : List X) → part 0 xs ≡ take p xs
  first_part xs = ap (λ k. take p (drop k xs)) (zero-mul p)

  pub chunk_at : (n q : ℕ) (xs : List X) (d : List X) → q < n → get_or (chunked p n xs) q d ≡ part q xs
  chunk_at zero q xs d h = absurd (omega arith)
  chunk_at (suc n) zero xs d h = sym (first_part xs)
  chunk_at (suc n) (suc q) xs d h = chunk_at n q (drop p xs) d (omega arith) ∙ next_part q xs

  pub length-chunked : (n : ℕ) (xs : List X) → length (chunked p n xs) ≡ n
  length-chunked zero xs = refl
  length-chunked (suc n) xs = let rest = length-chunked n (drop p xs) in omega arith

  pub joined_chunked : (n : ℕ) (xs : List X) → length xs ≤ n * p → joined (chunked p n xs) ≡ xs
  joined_chunked zero xs h = let none = zero-mul p in sym (nothing_left xs (omega arith))
  joined_chunked (suc n) xs h =
      let more = suc-mul n p in let left = length-drop p xs in
      ap (λ l. take p xs ++ l) (joined_chunked n (drop p xs) (omega arith)) ∙ take-append-drop p xs

  pub length_part : (q r : ℕ) (xs : List X) → length xs ≡ q * p + r → r < p → length (part q xs) ≡ r
  length_part q r xs e h = let left = length-drop (q * p) xs in let cut = length-take p (drop (q * p) xs) in omega arith

  pub within_part : (q r : ℕ) (xs : List X) → q * p + r < length xs → r < p → r < length (part q xs)
  within_part q r xs e h = let left = length-drop (q * p) xs in let cut = length-take p (drop (q * p) xs) in omega arith

  pub get_part : (q r : ℕ) (xs : List X) → r < p → slice_get (part q xs) r ≡ slice_get xs (q * p + r)
  get_part q r xs h = get_within (q * p) p xs r h

  -- a value is put in the place of another
  pub put_part : (n q r : ℕ) (xs : List X) (x : X) → q < n → r < p → set (chunked p n xs) q (set (part q xs) r x) ≡ chunked p n (set xs (q * p + r) x)
  put_part zero q r xs x h k = absurd (omega arith)
  put_part (suc n) zero r xs x h k =
      let here : r ≡ 0 * p + r = let z = zero-mul p in omega arith in
      ap (λ l. set l r x ∷ chunked p n (drop p xs)) (first_part xs)
      ∙ ap (λ l. l ∷ chunked p n (drop p xs)) (sym (take-set-lt p xs r x k)) ∙ ap (λ l. take p (set xs r x) ∷ chunked p n l) (sym (drop-set-lt p xs r x k))
      ∙ ap (λ i. chunked p (suc n) (set xs i x)) here
  put_part (suc n) (suc q) r xs x h k =
      let there : p + (q * p + r) ≡ suc q * p + r = let m = suc-mul q p in omega arith in
      let i = q * p + r in
      ap (λ l. take p xs ∷ set (chunked p n (drop p xs)) q (set l r x)) (sym (next_part q xs))
      ∙ ap (λ l. take p xs ∷ l) (put_part n q r (drop p xs) x (omega arith) k)
      ∙ ap (λ l. l ∷ chunked p n (set (drop p xs) i x)) (sym (take-set-le p xs (p + i) x (omega arith)))
      ∙ ap (λ l. take p (set xs (p + i) x) ∷ chunked p n l) (sym (drop-set-add p xs i x))
      ∙ ap (λ j. chunked p (suc n) (set xs j x)) there

  -- a value is written to the first place that is empty
  pub push_part : (n q r : ℕ) (xs : List X) (x : X) → q < n → length xs ≡ q * p + r → r < p → set (chunked p n xs) q (part q xs ++ x ∷ []) ≡ chunked p n (xs ++ x ∷ [])
  push_part zero q r xs x h e k = absurd (omega arith)
  push_part (suc n) zero r xs x h e k =
      let z = zero-mul p in let more = length-append xs (x ∷ []) in
      ap (λ l. (l ++ x ∷ []) ∷ chunked p n (drop p xs)) (first_part xs ∙ take_all p xs (omega arith))
      ∙ ap (λ l. l ∷ chunked p n (drop p xs)) (sym (take_all p (xs ++ x ∷ []) (omega arith)))
      ∙ ap (λ l. take p (xs ++ x ∷ []) ∷ chunked p n l) (drop_all p xs (omega arith) ∙ sym (drop_all p (xs ++ x ∷ []) (omega arith)))
  push_part (suc n) (suc q) r xs x h e k =
      let m = suc-mul q p in let left = length-drop p xs in
      ap (λ l. take p xs ∷ set (chunked p n (drop p xs)) q (l ++ x ∷ [])) (sym (next_part q xs))
      ∙ ap (λ l. take p xs ∷ l) (push_part n q r (drop p xs) x (omega arith) (omega arith) k)
      ∙ ap (λ l. l ∷ chunked p n (drop p xs ++ x ∷ [])) (sym (take-append-le p xs (x ∷ []) (omega arith)))
      ∙ ap (λ l. take p (xs ++ x ∷ []) ∷ chunked p n l) (sym (drop-append-le p xs (x ∷ []) (omega arith)))

  empty_chunks : (n : ℕ) → let none : List X = [] in replicate n none ≡ chunked p n none
  empty_chunks zero = refl
  empty_chunks (suc n) = let none : List X = [] in ap (λ l. none ∷ l) (empty_chunks n) ∙ ap (λ l. l ∷ chunked p n none) (sym (take_nothing p)) ∙ ap (λ l. take p none ∷ chunked p n l) (sym (drop-nil p))

  -- chunks without values come at the end
  pub more_chunks : (n k m : ℕ) (xs : List X) → n + k ≡ m → length xs ≤ n * p → chunked p n xs ++ replicate k [] ≡ chunked p m xs
  more_chunks zero k m xs e h = let z = zero-mul p in let same : k ≡ m = omega arith in empty_chunks k ∙ ap (chunked p k) (sym (nothing_left xs (omega arith))) ∙ ap (λ i. chunked p i xs) same
  more_chunks (suc n) k zero xs e h = absurd (omega arith)
  more_chunks (suc n) k (suc m) xs e h = let more = suc-mul n p in let left = length-drop p xs in ap (λ l. take p xs ∷ l) (more_chunks n k m (drop p xs) (omega arith) (omega arith))
