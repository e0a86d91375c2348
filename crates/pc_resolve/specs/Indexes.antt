-- Keys with values, where the first value of each key counts.
use Rattle.std.specs.{Prelude.{ℕ, Bool, List, [], ◌∷◌, ◌++◌, is_some, length, if◌then◌else◌}, Map.lookup}

module _ {K X : Type 0} (eq : K → K → Bool) where
  -- Appends the pair, unless its key is there already.
  abbrev pub with_first : List (K × X) → K × X → List (K × X)
  with_first es p = if is_some (lookup (eq p.0) es) then es else es ++ p ∷ []

  abbrev pub with_firsts : List (K × X) → List (K × X) → List (K × X)
  with_firsts es [] = es
  with_firsts es (p ∷ ps) = with_firsts (with_first es p) ps

  -- For each key the first pair.
  abbrev pub firsts : List (K × X) → List (K × X)
  firsts ps = with_firsts [] ps

  -- For each pair, the number of keys before it, after those of the first list.
  abbrev pub marks : List (K × X) → List (K × X) → List ℕ
  marks es [] = []
  marks es (p ∷ ps) = length es ∷ marks (with_first es p) ps
