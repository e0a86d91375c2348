-- Marks that say which numbers a list has.
use Rattle.std.specs.Prelude.{◌≡◌, ℕ, Bool, List, Some, slice_get}
use Rattle.pc_members.specs.Edges.{has_number}

-- For each number below the length of the second list, whether the first list has it.
pub record IsMarked (numbers : List ℕ) (marks : List Bool) : Type 0 where
  pub marked : (number : ℕ) (is_there : Bool) → slice_get marks number ≡ Some is_there → is_there ≡ has_number numbers number
