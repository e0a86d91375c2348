-- Words on lists: elements by their names and places, runs of numbers, and texts; and computations that may have no
-- result.
use Rattle.std.specs.Prelude.{ℕ, ◌+◌, List, [], ◌∷◌, Option, Some, None, nat_eq, if◌then◌else◌, ◌≡◌, ◌⊎◌, ◌<◌, slice_get, Bool, true, false, ◌++◌, flat_map}

-- The place of the first element with this name, counting the first element of the list as place `at`.
abbrev pub place_of : {T : Type 0} → (T → ℕ) → ℕ → List T → ℕ → Option ℕ
place_of name_of name [] at = None
place_of name_of name (x ∷ xs) at = if nat_eq (name_of x) name then Some at else place_of name_of name xs (at + 1)

-- The list of this one element if the test holds, or else the empty list.
abbrev pub one_if : {T : Type 0} → Bool → T → List T
one_if true x = x ∷ []
one_if false x = []

-- The next step of a computation, if there is a result so far.
infixl 10 ◌>>=◌
abbrev pub ◌>>=◌ : {A B : Type 0} → Option A → (A → Option B) → Option B
None >>= f = None
(Some x) >>= f = f x

-- ---- properties of lists, stated by the places of their elements

-- Each element of the list, at its place, has this property.
abbrev pub Each : {T : Type 0} → (ℕ → T → Type 0) → List T → Type 0
Each {T} P xs = (i : ℕ) (x : T) → slice_get xs i ≡ Some x → P i x

-- The list has this element.
abbrev pub Has : {T : Type 0} → List T → T → Type 0
Has xs x = (i : ℕ) × (slice_get xs i ≡ Some x)

-- No element occurs twice in the list.
abbrev pub Differ : {T : Type 0} → List T → Type 0
Differ {T} xs = (i j : ℕ) (x : T) → slice_get xs i ≡ Some x → slice_get xs j ≡ Some x → i ≡ j

-- Each number of the list is less than every later one.
abbrev pub Ascends : List ℕ → Type 0
Ascends xs = (i j a b : ℕ) → i < j → slice_get xs i ≡ Some a → slice_get xs j ≡ Some b → a < b

-- The number occurs in the list.
abbrev pub IsIn : ℕ → List ℕ → Type 0
IsIn n [] = ⊥
IsIn n (x ∷ xs) = (n ≡ x) ⊎ IsIn n xs

-- Runs, each a first number and a count, that cover all numbers from one up to, but not including, another, in order and
-- without gaps.
abbrev pub Follow : ℕ → List (ℕ × ℕ) → ℕ → Type 0
Follow at [] last = at ≡ last
Follow at (run ∷ runs) last = (run.0 ≡ at) × Follow (at + run.1) runs last

-- ---- texts, each as the list of its bytes

abbrev pub Text : Type 0
Text = List ℕ

-- The texts of these, one after the other, with a text between any two.
abbrev pub separated : {T : Type 0} → (between : Text) → (T → Text) → List T → Text
separated between text [] = []
separated between text (x ∷ xs) = text x ++ flat_map (λ y. between ++ text y) xs

-- The end of a line.
abbrev pub line_end : Text
line_end = 10 ∷ []
