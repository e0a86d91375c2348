-- Lists that match, lists in an order, and runs within a list.
use Rattle.std.proofs.{Common.{◌≡◌, ℕ, zero, suc, ◌+◌, ◌-◌, ◌<◌, ◌≤◌, List, [], ◌∷◌, ◌++◌, length, map, take, drop, Some, refl, sym, ap, ap₂, ◌∙◌, subst, arith, length-drop}, lemmas.Option.{same_Some, none-some}, Math.Seq.take-append-add, lemmas.List.{length-map, take-append-drop}}
use Rattle.std.specs.Prelude.{slice_get, slice_range}
use Rattle.pc_base.specs.Lists.{Has}
use Rattle.pc_base.proofs.Gets.{get_map}
use Rattle.pc_core_relation.specs.Files.{Match}

-- ---- lists that match

pub match_none : {A B : Type 0} (R : A → B → Type 0) → Match R [] []
match_none R = (refl, λ i x y a b. absurd (none-some x a))

pub match_cons : {A B : Type 0} (R : A → B → Type 0) (x : A) (y : B) (xs : List A) (ys : List B) → R x y → Match R xs ys → Match R (x ∷ xs) (y ∷ ys)
match_cons {A} {B} R x y xs ys r m = (ap suc m.0, by)
  where
    by : (i : ℕ) (a : A) (b : B) → slice_get (x ∷ xs) i ≡ Some a → slice_get (y ∷ ys) i ≡ Some b → R a b
    by zero a b g h = subst (λ z. R z b) (same_Some x a g) (subst (R x) (same_Some y b h) r)
    by (suc i) a b g h = m.1 i a b g h

pub match_rest : {A B : Type 0} (R : A → B → Type 0) (x : A) (y : B) (xs : List A) (ys : List B) → Match R (x ∷ xs) (y ∷ ys) → Match R xs ys
match_rest R x y xs ys m = let e = m.0 in (omega (arith, e), λ i a b g h. m.1 (suc i) a b g h)

-- A list and its image under a function.
pub map_matches : {A B : Type 0} (R : A → B → Type 0) (f : A → B) (xs : List A) → ((x : A) → Has xs x → R x (f x)) → Match R xs (map f xs)
map_matches R f xs h = (sym (length-map xs f), λ i x y a b. subst (R x) (same_Some (f x) y (sym (get_map f xs i x a) ∙ b)) (h x (i, a)))

-- ---- lists in an order

pub only_one : {T : Type 0} (x y : T) → Has (x ∷ []) y → x ≡ y
only_one x y (zero, g) = same_Some x y g
only_one x y (suc i, g) = absurd (none-some y g)

module _ {T : Type 0} (Before : T → T → Type 0) (not_both : (x y : T) → Before x y → Before y x → ⊥) where
  abbrev Ordered : List T → Type 0
  Ordered xs = (i j : ℕ) (x y : T) → i < j → slice_get xs i ≡ Some x → slice_get xs j ≡ Some y → Before x y

  rest_ordered : (x : T) (xs : List T) → Ordered (x ∷ xs) → Ordered xs
  rest_ordered x xs o i j y z l h g = let m : suc i < suc j = omega (arith, l) in o (suc i) (suc j) y z m h g

  first_is : (x y : T) (xs ys : List T) → Ordered (x ∷ xs) → Ordered (y ∷ ys) → Has (y ∷ ys) x → Has (x ∷ xs) y → x ≡ y
  first_is x y xs ys o p (zero, g) k = sym (same_Some y x g)
  first_is x y xs ys o p (suc i, g) (zero, h) = same_Some x y h
  first_is x y xs ys o p (suc i, g) (suc j, h) = absurd (not_both x y (o 0 (suc j) x y (omega arith) refl h) (p 0 (suc i) y x (omega arith) refl g))

  rest_has : (x y z : T) (xs ys : List T) → x ≡ y → Ordered (x ∷ xs) → Has xs z → Has (y ∷ ys) z → Has ys z
  rest_has x y z xs ys e o h (suc i, g) = (i, g)
  rest_has x y z xs ys e o h (zero, g) =
      let same : x ≡ z = e ∙ same_Some y z g in
      let self : Before x x = subst (Before x) (sym same) (o 0 (suc h.0) x z (omega arith) refl h.1) in
      absurd (not_both x x self self)

  -- Lists in this order with the same elements are the same.
  pub one_order : (xs ys : List T) → Ordered xs → Ordered ys → ((x : T) → Has xs x → Has ys x) → ((x : T) → Has ys x → Has xs x) → xs ≡ ys
  one_order [] [] o p f g = refl
  one_order [] (y ∷ ys) o p f g = absurd (none-some y (g y (0, refl)).1)
  one_order (x ∷ xs) [] o p f g = absurd (none-some x (f x (0, refl)).1)
  one_order (x ∷ xs) (y ∷ ys) o p f g =
      let e : x ≡ y = first_is x y xs ys o p (f x (0, refl)) (g y (0, refl)) in
      let rest : xs ≡ ys = one_order xs ys (rest_ordered x xs o) (rest_ordered y ys p)
      (λ z h. rest_has x y z xs ys e o h (f z (suc h.0, h.1))) (λ z h. rest_has y x z ys xs (sym e) p h (g z (suc h.0, h.1))) in
      ap (λ z. z ∷ xs) e ∙ ap (λ zs. y ∷ zs) rest

-- ---- runs

pub take_count : {T : Type 0} → (xs : List T) (n : ℕ) → n ≤ length xs → length (take n xs) ≡ n
take_count xs zero l = refl
take_count [] (suc n) l = absurd (omega (arith, l))
take_count (y ∷ ys) (suc n) l = let m : n ≤ length ys = omega (arith, l) in ap suc (take_count ys n m)

-- A run within a list is as long as it says.
pub range_count : {T : Type 0} → (xs : List T) (a n : ℕ) → a + n ≤ length xs → length (slice_range xs a (a + n)) ≡ n
range_count xs a n l =
    let size : length (drop a xs) ≡ length xs - a = length-drop a xs in
    let many : a + n - a ≡ n = omega arith in
    let room : a + n - a ≤ length (drop a xs) = omega (arith, size, many, l) in
    take_count (drop a xs) (a + n - a) room ∙ many

-- A list that matches the image of another is that image.
pub match_one : {A B : Type 0} (R : A → B → Type 0) (f : A → B) → ((x : A) (y : B) → R x y → f x ≡ y) → (xs : List A) (ys : List B) → Match R xs ys → map f xs ≡ ys
match_one R f one [] [] m = refl
match_one R f one [] (y ∷ ys) m = let e = m.0 in absurd (omega (arith, e))
match_one R f one (x ∷ xs) [] m = let e = m.0 in absurd (omega (arith, e))
match_one R f one (x ∷ xs) (y ∷ ys) m = ap (λ z. z ∷ map f xs) (one x y (m.1 0 x y refl refl)) ∙ ap (λ zs. y ∷ zs) (match_one R f one xs ys (match_rest R x y xs ys m))

-- A prefix of a list, and a run after it.
pub take_run : {T : Type 0} → (xs : List T) (a n : ℕ) → a + n ≤ length xs → take a xs ++ slice_range xs a (a + n) ≡ take (a + n) xs
take_run xs a n l =
    let many : a + n - a ≡ n = omega arith in
    let front : a ≤ length xs = omega (arith, l) in
    let size : length (take a xs) ≡ a = take_count xs a front in
    ap (λ k. take a xs ++ take k (drop a xs)) many
    ∙ sym (take-append-add (take a xs) (drop a xs) n)
    ∙ ap₂ (λ k ys. take k ys) (ap (λ k. k + n) size) (take-append-drop a xs)
