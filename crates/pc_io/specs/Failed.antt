-- The names of the files that could not be read.
use Rattle.std.specs.{Prelude.{ℕ, List, count_by}, Str.bytes_eq}

-- how often a name occurs in a list
abbrev pub times : List ℕ → List (List ℕ) → ℕ
times name names = count_by (λ n. bytes_eq n name) names
