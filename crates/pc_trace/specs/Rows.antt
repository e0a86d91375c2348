-- One more place of a row.
use Rattle.std.specs.Prelude.{◌≡◌, ◌⊎◌, ◌++◌, ◌∷◌, [], ℕ, List, max, Option, Some, None, slice_get}
use Rattle.pc_trace.specs.{declared.touch.Touch.Touch, Clashes.Unknown, Covers.Replaces}

-- The later one of two places.
abbrev pub further : Option ℕ → ℕ → Option ℕ
further None m = Some m
further (Some n) m = Some (max n m)

-- One more place, after its access has been looked at.
abbrev pub Looked : List Touch → ℕ → Touch → Option ℕ → Option ℕ → Type 0
Looked touches place p found result =
    (q : Touch) → slice_get touches place ≡ Some q → (Unknown q p × (result ≡ further found place)) ⊎ ((Unknown q p → ⊥) × (result ≡ found))

-- One more place, which is kept or not.
abbrev pub KeptOrNot : List Touch → ℕ → Touch → List ℕ → List ℕ → Type 0
KeptOrNot touches place p old new =
    (q : Touch) → slice_get touches place ≡ Some q → (Replaces p q × (new ≡ old)) ⊎ ((Replaces p q → ⊥) × (new ≡ old ++ place ∷ []))
