-- The invariant inside a chunk.
use Rattle.std.specs.Prelude.{◌≡◌, ℕ}
use Rattle.pc_arena.specs.{declared.row.Row.Row, Ownership.row_size}

abbrev pub chunk_size : ℕ
chunk_size = row_size

-- The allocator is the one that the row came from.
pub record Sound {X Z : Type 0} (row : Row X Z) (alloc : Z) : Type 0 where
  pub owed : row.from ≡ alloc
