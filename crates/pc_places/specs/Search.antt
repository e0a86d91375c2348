-- The result of a search in ascending tokens.
use Rattle.std.specs.Prelude.{◌<◌, ◌≤◌, ℕ, List, Some, slice_get, ◌≡◌}
use Rattle.pc_token.specs.declared.kinds.Token.{Token}

-- The first of these tokens, this many, start at this byte or before it, and the others after it.
pub record IsAfter (tokens : List Token) (place count : ℕ) : Type 0 where
  pub before : (k : ℕ) (t : Token) → k < count → slice_get tokens k ≡ Some t → t.span.start ≤ place
  pub after : (k : ℕ) (t : Token) → count ≤ k → slice_get tokens k ≡ Some t → place < t.span.start
