-- Numbers that are read from words.
use Rattle.std.specs.Prelude.{ℕ, Option, Some, None}

-- A number with this property, or none if there is no such number.
abbrev pub Reads : (ℕ → Type 0) → Option ℕ → Type 0
Reads Is None = (n : ℕ) → Is n → ⊥
Reads Is (Some n) = Is n
