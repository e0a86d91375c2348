-- Lists seen from their ends.
use Rattle.std.proofs.{Common.{◌≡◌, ℕ, zero, suc, ◌-◌, ◌<◌, ◌≤◌, List, [], ◌∷◌, ◌++◌, Some, length, set, take, drop, refl, sym, ap, ◌∙◌, inl, inr, arith}, lemmas.List.{reverse-append, reverse-reverse, length-reverse, length-drop, take-append-drop, set_at, set-append_left}, lemmas.Bool.cases_lt}
use Rattle.std.specs.Prelude.{reverse, slice_get}
use Rattle.pc_base.proofs.Cuts.{take_front, drop_front}

-- the places of the front
get_left : {X : Type 0} (xs ys : List X) (i : ℕ) → i < length xs → slice_get (xs ++ ys) i ≡ slice_get xs i
get_left [] ys i l = absurd (omega arith)
get_left (x ∷ xs) ys zero l = refl
get_left (x ∷ xs) ys (suc i) l = let m : i < length xs = omega arith in get_left xs ys i m

-- a list that is not empty, by its last element
record EndsIn {X : Type 0} (xs : List X) : Type 0 where
  front : List X
  last : X
  is : xs ≡ front ++ last ∷ []
  len : length xs - 1 ≡ length front
  at : slice_get xs (length xs - 1) ≡ Some last

ends_in : {X : Type 0} (xs : List X) → 0 < length xs → EndsIn xs
ends_in [] l = absurd (omega arith)
ends_in (x ∷ []) l = record { front = []; last = x; is = refl; len = refl; at = refl }
ends_in (x ∷ y ∷ ys) l =
    let r = ends_in (y ∷ ys) (omega arith) in
    let n : length (x ∷ y ∷ ys) - 1 ≡ suc (length (y ∷ ys) - 1) = omega arith in
    record { front = x ∷ r.front; last = r.last; is = ap (λ zs. x ∷ zs) r.is; len = n ∙ ap suc r.len; at = ap (slice_get (x ∷ y ∷ ys)) n ∙ r.at }

-- turned round, the last element is the first
turned : {X : Type 0} (xs : List X) (l : 0 < length xs) → reverse xs ≡ (ends_in xs l).last ∷ reverse (ends_in xs l).front
turned xs l = ap reverse (ends_in xs l).is ∙ reverse-append (ends_in xs l).front ((ends_in xs l).last ∷ [])

-- a write in the last place
pub reverse_set_last : {X : Type 0} (xs : List X) (v : X) → 0 < length xs → reverse (set xs (length xs - 1) v) ≡ v ∷ drop 1 (reverse xs)
reverse_set_last xs v l =
    let r = ends_in xs l in
    let new : set xs (length xs - 1) v ≡ r.front ++ v ∷ [] = ap (λ zs. set zs (length xs - 1) v) r.is ∙ set_at r.front r.last [] v (length xs - 1) (sym r.len) in
    ap reverse new ∙ reverse-append r.front (v ∷ []) ∙ ap (λ zs. v ∷ drop 1 zs) (sym (turned xs l))

-- the last element
pub top_last : {X : Type 0} (xs : List X) (x : X) → 0 < length xs → slice_get xs (length xs - 1) ≡ Some x → slice_get (reverse xs) 0 ≡ Some x
top_last xs x l e = ap (λ zs. slice_get zs 0) (turned xs l) ∙ sym (ends_in xs l).at ∙ e

-- a write, counted from the last place
pub reverse_set : {X : Type 0} (k : ℕ) (xs : List X) (v : X) → k < length xs → reverse (set xs (length xs - 1 - k) v) ≡ set (reverse xs) k v
reverse_set zero xs v l =
    let n : length xs - 1 - 0 ≡ length xs - 1 = omega arith in
    ap (λ i. reverse (set xs i v)) n ∙ reverse_set_last xs v l ∙ ap (λ zs. v ∷ drop 1 zs) (turned xs l) ∙ ap (λ zs. set zs 0 v) (sym (turned xs l))
reverse_set (suc j) xs v l =
    let some : 0 < length xs = omega arith in
    let r = ends_in xs some in
    let m : j < length r.front = omega (arith, r.len) in
    let n : length xs - 1 - suc j ≡ length r.front - 1 - j = omega (arith, r.len) in
    let i : length r.front - 1 - j < length r.front = omega arith in
    ap (λ zs. reverse (set zs (length xs - 1 - suc j) v)) r.is ∙ ap (λ k. reverse (set (r.front ++ r.last ∷ []) k v)) n
    ∙ ap reverse (set-append_left r.front (r.last ∷ []) (length r.front - 1 - j) v i)
    ∙ reverse-append (set r.front (length r.front - 1 - j) v) (r.last ∷ [])
    ∙ ap (λ zs. r.last ∷ zs) (reverse_set j r.front v m)
    ∙ ap (λ zs. set zs (suc j) v) (sym (turned xs some))

-- a read, counted from the last place
pub reverse_get : {X : Type 0} (k : ℕ) (xs : List X) → k < length xs → slice_get (reverse xs) k ≡ slice_get xs (length xs - 1 - k)
reverse_get zero xs l =
    let n : length xs - 1 - 0 ≡ length xs - 1 = omega arith in
    ap (λ zs. slice_get zs 0) (turned xs l) ∙ sym (ends_in xs l).at ∙ ap (slice_get xs) (sym n)
reverse_get (suc j) xs l =
    let some : 0 < length xs = omega arith in
    let r = ends_in xs some in
    let m : j < length r.front = omega (arith, r.len) in
    let n : length xs - 1 - suc j ≡ length r.front - 1 - j = omega (arith, r.len) in
    let i : length r.front - 1 - j < length r.front = omega arith in
    ap (λ zs. slice_get zs (suc j)) (turned xs some)
    ∙ reverse_get j r.front m
    ∙ sym (get_left r.front (r.last ∷ []) (length r.front - 1 - j) i)
    ∙ ap (slice_get (r.front ++ r.last ∷ [])) (sym n)
    ∙ ap (λ zs. slice_get zs (length xs - 1 - suc j)) (sym r.is)

-- ---- the last elements, turned round

-- a list turned round, cut before its last elements
cut : {X : Type 0} (xs : List X) (n : ℕ) → reverse xs ≡ reverse (drop n xs) ++ reverse (take n xs)
cut xs n = ap reverse (sym (take-append-drop n xs)) ∙ reverse-append (take n xs) (drop n xs)

-- how many the last elements are
last_count : {X : Type 0} (xs : List X) (count : ℕ) → count ≤ length xs → length (reverse (drop (length xs - count) xs)) ≡ count
last_count xs count l =
    let n : length xs - (length xs - count) ≡ count = omega (arith, l) in
    length-reverse (drop (length xs - count) xs) ∙ length-drop (length xs - count) xs ∙ n

pub last_taken : {X : Type 0} (xs : List X) (count : ℕ) → count ≤ length xs → drop (length xs - count) xs ≡ reverse (take count (reverse xs))
last_taken xs count l =
    let n = length xs - count in
    let tail = reverse (drop n xs) in
    sym (reverse-reverse (drop n xs))
    ∙ ap reverse (sym (take_front tail (reverse (take n xs))))
    ∙ ap (λ k. reverse (take k (tail ++ reverse (take n xs)))) (last_count xs count l)
    ∙ ap (λ zs. reverse (take count zs)) (sym (cut xs n))

last_dropped : {X : Type 0} (xs : List X) (count : ℕ) → count ≤ length xs → reverse (take (length xs - count) xs) ≡ drop count (reverse xs)
last_dropped xs count l =
    let n = length xs - count in
    let tail = reverse (drop n xs) in
    sym (drop_front tail (reverse (take n xs)))
    ∙ ap (λ k. drop k (tail ++ reverse (take n xs))) (last_count xs count l)
    ∙ ap (drop count) (sym (cut xs n))

all_dropped : {X : Type 0} (xs : List X) (count : ℕ) → length xs ≤ count → drop count xs ≡ []
all_dropped [] zero l = refl
all_dropped [] (suc k) l = refl
all_dropped (x ∷ xs) zero l = absurd (omega arith)
all_dropped (x ∷ xs) (suc k) l = let m : length xs ≤ k = omega (arith, l) in all_dropped xs k m

-- what is left without the last elements
pub first_kept : {X : Type 0} (xs : List X) (count : ℕ) → reverse (take (length xs - count) xs) ≡ drop count (reverse xs)
first_kept xs count =
    elim (cases_lt (length xs) count) [
      | inr l ↦ last_dropped xs count l
      | inl l ↦
          let none : length xs - count ≡ 0 = omega (arith, l) in
          let all : length (reverse xs) ≤ count = omega (arith, l, length-reverse xs) in
          ap (λ k. reverse (take k xs)) none ∙ sym (all_dropped (reverse xs) count all)
    ]
