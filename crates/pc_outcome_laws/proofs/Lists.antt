-- Lists and the places in them.
use Rattle.std.proofs.{Common.{◌≡◌, ◌<◌, ◌≤◌, ◌+◌, ℕ, zero, suc, Bool, true, false, cond, List, [], ◌∷◌, ◌++◌, length, take, Option, Some, None, refl, sym, ap, ap₂, ◌∙◌, subst, arith}, lemmas.Bool.{false≢true, or_right}, lemmas.List.Sums.sum_by-cons, lemmas.Option.{none-some, same_Some}}
use Rattle.std.specs.{Prelude.{◌||◌, IfSome, IsSomeAnd, slice_get}, List.{AllByRecursion, count_by, list_any}}

-- ---- an element at a place

pub some_at : {X : Type 0} (xs : List X) (x : X) (ys : List X) → slice_get (xs ++ x ∷ ys) (length xs) ≡ Some x
some_at [] x ys = refl
some_at (y ∷ xs) x ys = some_at xs x ys

pub all_at : {X : Type 0} (P : X → Type 0) (xs : List X) (i : ℕ) (x : X) → slice_get xs i ≡ Some x → AllByRecursion P xs → P x
all_at P [] i x e a = absurd (none-some x e)
all_at P (y ∷ xs) zero x e a = subst P (same_Some y x e) a.0
all_at P (y ∷ xs) (suc i) x e a = all_at P xs i x e a.1

-- what is there
pub there : {X : Type 0} (P : X → Type 0) (o : Option X) → IsSomeAnd o P → (x : X) × (o ≡ Some x) × P x
there P None s = absurd s
there P (Some x) s = (x, refl, s)

pub of_some : {X : Type 0} (P : X → Type 0) (o : Option X) (x : X) → o ≡ Some x → IfSome o P → P x
of_some P None x e h = absurd (none-some x e)
of_some P (Some y) x e h = subst P (same_Some y x e) h

-- Elements of which each place has but one are a front of as many others.
pub front : {X : Type 0} (P : ℕ → X → Type 0) → ((i : ℕ) (x y : X) → P i x → P i y → x ≡ y) → (xs ys : List X) → length xs ≤ length ys → ((i : ℕ) → IfSome (slice_get xs i) (P i)) → ((i : ℕ) → IfSome (slice_get ys i) (P i))
    → (rest : List X) × (ys ≡ xs ++ rest)
front P one [] ys l a b = (ys, refl)
front P one (x ∷ xs) [] l a b = absurd (omega (arith, l))
front {X} P one (x ∷ xs) (y ∷ ys) l a b =
    let more = front (λ i. P (suc i)) (λ i. one (suc i)) xs ys (omega (arith, l)) (λ i. a (suc i)) (λ i. b (suc i)) in
    (more.0, ap₂ (λ (z : X) (zs : List X). z ∷ zs) (one 0 y x (b 0) (a 0)) more.1)

-- ---- tests

pub any_take : {X : Type 0} (f : X → Bool) (xs : List X) (n i : ℕ) (x : X) → i < n → slice_get xs i ≡ Some x → f x ≡ true → list_any f (take n xs) ≡ true
any_take f [] n i x l e h = absurd (none-some x e)
any_take f (y ∷ xs) zero i x l e h = absurd (omega (arith, l))
any_take f (y ∷ xs) (suc n) zero x l e h = ap (λ (b : Bool). b || list_any f (take n xs)) (ap f (same_Some y x e) ∙ h)
any_take f (y ∷ xs) (suc n) (suc i) x l e h = or_right (f y) (list_any f (take n xs)) (any_take f xs n i x (omega (arith, l)) e h)

-- None passes, if none is counted.
none_here : (b : Bool) (n : ℕ) (more : Bool) → (n ≡ 0 → more ≡ false) → cond b 1 0 + n ≡ 0 → (b || more) ≡ false
none_here true n more by e = absurd (omega (arith, e))
none_here false n more by e = by (omega (arith, e))

pub none_counted : {X : Type 0} (f : X → Bool) (xs : List X) → count_by f xs ≡ 0 → list_any f xs ≡ false
none_counted f [] e = refl
none_counted {X} f (x ∷ xs) e =
    let parts : count_by f (x ∷ xs) ≡ cond (f x) 1 0 + count_by f xs = sum_by-cons (λ (y : X). cond (f y) 1 0) x xs in
    none_here (f x) (count_by f xs) (list_any f xs) (none_counted f xs) (sym parts ∙ e)

-- One that is found.
found_here : {X : Type 0} (f : X → Bool) (P : X → Type 0) (C : Type 0) (x : X) (more : Bool) → (f x ≡ true → C) → (more ≡ true → C) → (b : Bool) → f x ≡ b → (b || more) ≡ true → C
found_here f P C x more first later true e h = first e
found_here f P C x more first later false e h = later h

pub found : {X : Type 0} (f : X → Bool) (P : X → Type 0) (C : Type 0) (xs : List X) → ((x : X) → f x ≡ true → P x → C) → AllByRecursion P xs → list_any f xs ≡ true → C
found f P C [] by a h = absurd (false≢true h)
found f P C (x ∷ xs) by a h = found_here f P C x (list_any f xs) (λ e. by x e a.0) (λ m. found f P C xs by a.1 m) (f x) refl h
