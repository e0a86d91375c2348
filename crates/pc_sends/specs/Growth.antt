-- How a list of distinct numbers has grown.
use Rattle.std.specs.Prelude.{◌≡◌, ◌⊎◌, ◌↔◌, ℕ, ◌<◌, ◌≤◌, List, ◌++◌, Some, slice_get}
use Rattle.pc_base.specs.Lists.{Has, Differ, Ascends}

-- The numbers with P were appended, unless they were in the list already, and no others were.
pub record Grown (P : ℕ → Type 0) (old new : List ℕ) : Type 0 where
  pub more : List ℕ
  pub behind : new ≡ old ++ more
  pub only : (t : ℕ) → Has new t → Has old t ⊎ P t
  pub all : (t : ℕ) → P t → Has new t
  pub differ : Differ old → Differ new

-- The number is related to some number from `low` on and below n.
abbrev pub TurnsBelow : (ℕ → ℕ → Type 0) → (low end number : ℕ) → Type 0
TurnsBelow Q low n t = (k : ℕ) × (low ≤ k) × (k < n) × Q k t

-- The number is related to some element of a list.
abbrev pub OfSome : {A : Type 0} → (A → ℕ → Type 0) → List A → ℕ → Type 0
OfSome {A} R xs t = (k : ℕ) × (x : A) × (slice_get xs k ≡ Some x) × R x t

-- The second list has the numbers of the first in ascending order.
pub record Sorts (xs ys : List ℕ) : Type 0 where
  pub ascends : Ascends ys
  pub same : (t : ℕ) → (Has ys t) ↔ (Has xs t)
