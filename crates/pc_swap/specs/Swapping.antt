-- How the exchange of two turns of a list ends.
use Rattle.std.specs.Prelude.{◌≡◌, ℕ, List, ◌∷◌, ◌++◌, None}
use Rattle.pc_core.specs.CoreData.{CoreData}
use Rattle.pc_semantics.specs.{Step.{after, outcomes}, Text.end_of}
use Rattle.pc_swap.specs.Apart.{Apart, Swapped}

-- The turns of i and j, after a front that no step ends, are exchanged: they are apart there, all four steps move, and
-- the new list leads to the same configuration.
pub record Exchanged (core : CoreData) (front : List ℕ) (i j : ℕ) (rest new : List ℕ) : Type 0 where
  pub goes_on : end_of (outcomes core front) ≡ None
  pub apart : Apart core (after core front) i j
  pub new_is : new ≡ front ++ j ∷ i ∷ rest
  pub swapped : Swapped core (after core front) i j
  pub same : after core new ≡ after core (front ++ i ∷ j ∷ rest)
