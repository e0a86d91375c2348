-- A sink over a writer of the standard library.
use Rattle.std.specs.Prelude.{ℕ, List, Option}

-- What the writer reports as written; how many calls failed.
pub record ToldWriter : Type 0 where
  pub written : Option (List ℕ)
  pub faults : ℕ
