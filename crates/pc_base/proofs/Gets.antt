-- What a list has at a place: in a prefix, after one, after a push, after a write, in a part of it, and mapped.
use Rattle.std.specs.Prelude.{◌≡◌, ◌≢◌, ◌⊎◌, ℕ, zero, suc, ◌+◌, ◌-◌, ◌<◌, ◌≤◌, List, [], ◌∷◌, ◌++◌, length, map, take, drop, Some, slice_get, slice_set, slice_range, refl}
use Rattle.std.proofs.{Common.{inl, inr, ap, sym, ◌∙◌, arith}, lemmas.Option.{same_Some, none-some}}

-- A place with a value is within the list.
pub get_below : {T : Type 0} → (xs : List T) (n : ℕ) (x : T) → slice_get xs n ≡ Some x → n < length xs
get_below [] n x e = absurd (none-some x e)
get_below (y ∷ ys) zero x e = omega arith
get_below (y ∷ ys) (suc n) x e = let k = get_below ys n x e in omega (arith, k)

-- A place within the list has a value.
pub get_within : {T : Type 0} → (xs : List T) (n : ℕ) → n < length xs → (x : T) × (slice_get xs n ≡ Some x)
get_within [] n l = absurd (omega arith)
get_within (y ∷ ys) zero l = (y, refl)
get_within (y ∷ ys) (suc n) l = let k : n < length ys = omega arith in get_within ys n k

-- A prefix keeps its places.
pub get_front : {T : Type 0} → (xs ys : List T) (n : ℕ) (x : T) → slice_get xs n ≡ Some x → slice_get (xs ++ ys) n ≡ Some x
get_front [] ys n x e = absurd (none-some x e)
get_front (z ∷ zs) ys zero x e = e
get_front (z ∷ zs) ys (suc n) x e = get_front zs ys n x e

-- The first value after a prefix.
pub get_behind : {T : Type 0} → (xs : List T) (x : T) (ys : List T) → slice_get (xs ++ x ∷ ys) (length xs) ≡ Some x
get_behind [] x ys = refl
get_behind (z ∷ zs) x ys = get_behind zs x ys

-- A value of a list with one more appended.
pub get_push : {T : Type 0} → (xs : List T) (x : T) (n : ℕ) (y : T) → slice_get (xs ++ x ∷ []) n ≡ Some y → (slice_get xs n ≡ Some y) ⊎ ((n ≡ length xs) × (x ≡ y))
get_push [] x zero y e = inr (refl, same_Some x y e)
get_push [] x (suc n) y e = absurd (none-some y e)
get_push (z ∷ zs) x zero y e = inl e
get_push (z ∷ zs) x (suc n) y e = elim (get_push zs x n y e) [ inl a ↦ inl a | inr b ↦ inr (ap suc b.0, b.1) ]

-- A value after a write.
pub get_set : {T : Type 0} → (xs : List T) (i : ℕ) (y : T) (j : ℕ) (x : T) → slice_get (slice_set xs i y) j ≡ Some x → ((j ≡ i) × (x ≡ y)) ⊎ (slice_get xs j ≡ Some x)
get_set [] i y j x e = inr e
get_set (z ∷ zs) zero y zero x e = inl (refl, sym (same_Some y x e))
get_set (z ∷ zs) zero y (suc j) x e = inr e
get_set (z ∷ zs) (suc i) y zero x e = inr e
get_set (z ∷ zs) (suc i) y (suc j) x e = elim (get_set zs i y j x e) [ inl p ↦ inl (ap suc p.0, p.1) | inr q ↦ inr q ]

-- The place that was written.
pub get_set_same : {T : Type 0} → (xs : List T) (i : ℕ) (y : T) → i < length xs → slice_get (slice_set xs i y) i ≡ Some y
get_set_same [] i y l = absurd (omega arith)
get_set_same (z ∷ zs) zero y l = refl
get_set_same (z ∷ zs) (suc i) y l = let k : i < length zs = omega arith in get_set_same zs i y k

-- The other places.
pub get_set_other : {T : Type 0} → (xs : List T) (i : ℕ) (y : T) (j : ℕ) → j ≢ i → slice_get (slice_set xs i y) j ≡ slice_get xs j
get_set_other [] i y j n = refl
get_set_other (z ∷ zs) zero y zero n = absurd (n refl)
get_set_other (z ∷ zs) zero y (suc j) n = refl
get_set_other (z ∷ zs) (suc i) y zero n = refl
get_set_other (z ∷ zs) (suc i) y (suc j) n = get_set_other zs i y j (λ e. n (ap suc e))

-- A write of what is there already.
pub set_read : {T : Type 0} → (xs : List T) (i : ℕ) (y : T) → slice_get xs i ≡ Some y → slice_set xs i y ≡ xs
set_read [] i y e = refl
set_read (x ∷ xs) zero y e = ap (λ z. z ∷ xs) (sym (same_Some x y e))
set_read (x ∷ xs) (suc i) y e = ap (λ zs. x ∷ zs) (set_read xs i y e)

-- A write that is undone.
pub set_back : {T : Type 0} → (xs : List T) (i : ℕ) (y z : T) → slice_get xs i ≡ Some y → slice_set (slice_set xs i z) i y ≡ xs
set_back [] i y z e = refl
set_back (x ∷ xs) zero y z e = ap (λ w. w ∷ xs) (sym (same_Some x y e))
set_back (x ∷ xs) (suc i) y z e = ap (λ zs. x ∷ zs) (set_back xs i y z e)

-- A list after another, place by place.
pub get_append : {T : Type 0} → (xs ys : List T) (n : ℕ) → slice_get (xs ++ ys) (length xs + n) ≡ slice_get ys n
get_append [] ys n = let e : 0 + n ≡ n = omega arith in ap (slice_get ys) e
get_append (x ∷ xs) ys n = let e : length (x ∷ xs) + n ≡ suc (length xs + n) = omega arith in ap (slice_get (x ∷ xs ++ ys)) e ∙ get_append xs ys n

-- A value of two lists, one after the other.
pub append_get : {T : Type 0} → (xs ys : List T) (n : ℕ) (y : T) → slice_get (xs ++ ys) n ≡ Some y → (slice_get xs n ≡ Some y) ⊎ ((length xs ≤ n) × (slice_get ys (n - length xs) ≡ Some y))
append_get [] ys n y e = let k : n ≡ n - 0 = omega arith in inr (omega arith, ap (slice_get ys) (sym k) ∙ e)
append_get (x ∷ xs) ys zero y e = inl e
append_get (x ∷ xs) ys (suc n) y e =
    elim (append_get xs ys n y e) [
      | inl a ↦ inl a
      | inr b ↦ let l = b.0 in let k : suc n - length (x ∷ xs) ≡ n - length xs = omega arith in inr (omega (arith, l), ap (slice_get ys) k ∙ b.1)
    ]

-- The mapped list has the image of what the list has.
pub get_map : {A B : Type 0} → (f : A → B) (xs : List A) (n : ℕ) (x : A) → slice_get xs n ≡ Some x → slice_get (map f xs) n ≡ Some (f x)
get_map f [] n x e = absurd (none-some x e)
get_map f (y ∷ ys) zero x e = ap (λ z. Some (f z)) (same_Some y x e)
get_map f (y ∷ ys) (suc n) x e = get_map f ys n x e

-- What the mapped list has is the image of something in the list.
pub map_get : {A B : Type 0} → (f : A → B) (xs : List A) (n : ℕ) (y : B) → slice_get (map f xs) n ≡ Some y → (x : A) × (slice_get xs n ≡ Some x) × (f x ≡ y)
map_get f [] n y e = absurd (none-some y e)
map_get f (x ∷ xs) zero y e = (x, refl, same_Some (f x) y e)
map_get f (x ∷ xs) (suc n) y e = map_get f xs n y e

-- A suffix of a list, place by place.
pub get_drop : {A : Type 0} → (xs : List A) (a n : ℕ) → slice_get (drop a xs) n ≡ slice_get xs (a + n)
get_drop [] zero n = refl
get_drop [] (suc a) n = refl
get_drop (x ∷ xs) zero n = let e : n ≡ 0 + n = omega arith in ap (slice_get (x ∷ xs)) e
get_drop (x ∷ xs) (suc a) n = let e : suc (a + n) ≡ suc a + n = omega arith in get_drop xs a n ∙ ap (slice_get (x ∷ xs)) e

pub get_take : {A : Type 0} → (xs : List A) (a n : ℕ) (x : A) → slice_get (take a xs) n ≡ Some x → (n < a) × (slice_get xs n ≡ Some x)
get_take [] zero n x e = absurd (none-some x e)
get_take [] (suc a) n x e = absurd (none-some x e)
get_take (y ∷ ys) zero n x e = absurd (none-some x e)
get_take (y ∷ ys) (suc a) zero x e = (omega arith, e)
get_take (y ∷ ys) (suc a) (suc n) x e = let k = get_take ys a n x e in let l = k.0 in (omega (arith, l), k.1)

pub take_get : {A : Type 0} → (xs : List A) (a n : ℕ) (x : A) → n < a → slice_get xs n ≡ Some x → slice_get (take a xs) n ≡ Some x
take_get [] a n x l e = absurd (none-some x e)
take_get (y ∷ ys) zero n x l e = absurd (omega (arith, l))
take_get (y ∷ ys) (suc a) zero x l e = e
take_get (y ∷ ys) (suc a) (suc n) x l e = let m : n < a = omega (arith, l) in take_get ys a n x m e

-- A range has what the list has there, and nothing else.
pub get_range : {A : Type 0} → (xs : List A) (a b n : ℕ) (x : A) → slice_get (slice_range xs a b) n ≡ Some x → (a + n < b) × (slice_get xs (a + n) ≡ Some x)
get_range xs a b n x e =
    let k = get_take (drop a xs) (b - a) n x e in
    let l = k.0 in
    (omega (arith, l), sym (get_drop xs a n) ∙ k.1)

pub range_get : {A : Type 0} → (xs : List A) (a b n : ℕ) (x : A) → a ≤ n → n < b → slice_get xs n ≡ Some x → slice_get (slice_range xs a b) (n - a) ≡ Some x
range_get xs a b n x l m e =
    let k : n - a < b - a = omega (arith, l, m) in
    let same : a + (n - a) ≡ n = omega (arith, l) in
    take_get (drop a xs) (b - a) (n - a) x k (get_drop xs a (n - a) ∙ ap (slice_get xs) same ∙ e)
