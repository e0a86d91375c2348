-- Prefixes and suffixes of a list.
use Rattle.std.proofs.{Common.{◌≡◌, ℕ, zero, suc, ◌+◌, ◌-◌, ◌<◌, ◌≤◌, List, [], ◌∷◌, ◌++◌, length, take, drop, get_or, slice_get, Some, refl, sym, ap, ap₂, ◌∙◌, arith, take_at, drop_at, length-drop}, lemmas.List.{drop-append-le, take-append-le}, lemmas.Option.{same_Some, none-some, slice_get_read}}
use Rattle.std.specs.Prelude.{slice_range}

-- A list of length zero.
pub without_length : {T : Type 0} → (xs : List T) → length xs ≡ 0 → xs ≡ []
without_length [] e = refl
without_length (x ∷ xs) e = absurd (omega (arith, e))

-- The whole list, with nothing after it.
pub take_whole : {T : Type 0} → (xs : List T) → take (length xs) xs ≡ xs
take_whole [] = refl
take_whole (x ∷ xs) = ap (λ ys. x ∷ ys) (take_whole xs)

-- The first of two lists, and what comes after it.
pub take_front : {T : Type 0} → (xs ys : List T) → take (length xs) (xs ++ ys) ≡ xs
take_front [] [] = refl
take_front [] (y ∷ ys) = refl
take_front (x ∷ xs) ys = ap (λ zs. x ∷ zs) (take_front xs ys)

pub drop_front : {T : Type 0} → (xs ys : List T) → drop (length xs) (xs ++ ys) ≡ ys
drop_front [] [] = refl
drop_front [] (y ∷ ys) = refl
drop_front (x ∷ xs) ys = drop_front xs ys

-- The suffix from an element on begins with it.
pub drop_item : {A : Type 0} → (xs : List A) (i : ℕ) (x : A) → slice_get xs i ≡ Some x → drop i xs ≡ x ∷ drop (i + 1) xs
drop_item [] i x e = absurd (none-some x e)
drop_item (y ∷ ys) zero x e = let one : 1 ≡ 0 + 1 = omega arith in ap (λ z. z ∷ ys) (same_Some y x e) ∙ ap (λ n. x ∷ drop n (y ∷ ys)) one
drop_item (y ∷ ys) (suc i) x e = let next : suc (i + 1) ≡ suc i + 1 = omega arith in drop_item ys i x e ∙ ap (λ n. x ∷ drop n (y ∷ ys)) next

-- The same for a list that was looked at.
pub item_first : {T : Type 0} → (xs : List T) (i : ℕ) (x : T) → i < length xs → x ≡ get_or xs i x → drop i xs ≡ x ∷ drop (i + 1) xs
item_first xs i x l e = drop_item xs i x (slice_get_read xs (length xs) i x refl l e)

-- From a place within the list on, something is left.
pub left_over : {A : Type 0} → (xs : List A) (i : ℕ) → i < length xs → 0 < length (drop i xs)
left_over xs i l = let k = length-drop i xs in omega (arith, k, l)

-- A range of a prefix.
pub range_front : {T : Type 0} → (xs ys : List T) (a b : ℕ) → a ≤ b → b ≤ length xs → slice_range (xs ++ ys) a b ≡ slice_range xs a b
range_front xs ys a b low high =
    let within : a ≤ length xs = omega (arith, low, high) in
    let rest : length (drop a xs) ≡ length xs - a = length-drop a xs in
    let room : b - a ≤ length (drop a xs) = omega (arith, rest, high) in
    ap (take (b - a)) (drop-append-le a xs ys within) ∙ take-append-le (b - a) (drop a xs) ys room

-- Two cuts of one list at one length.
pub same_cut : (b r c s : List ℕ) → b ++ r ≡ c ++ s → length b ≡ length c → (b ≡ c) × (r ≡ s)
same_cut b r c s e len = (
  sym (take_at b r (length b) refl) ∙ ap₂ (λ n l. take n l) len e ∙ take_at c s (length c) refl,
  sym (drop_at b r (length b) refl) ∙ ap₂ (λ n l. drop n l) len e ∙ drop_at c s (length c) refl,
)

-- Two lists whose concatenation is empty.
pub nil_left : {T : Type 0} → (xs ys : List T) → xs ++ ys ≡ [] → xs ≡ []
nil_left [] ys e = refl
nil_left (x ∷ xs) ys e = absurd (omega (arith, ap length e))

pub nil_right : {T : Type 0} → (xs ys : List T) → xs ++ ys ≡ [] → ys ≡ []
nil_right [] ys e = e
nil_right (x ∷ xs) ys e = absurd (omega (arith, ap length e))
