-- Files in memory, of which no read fails.
use Rattle.std.specs.Prelude.{ℕ, List, []}
use Rattle.pc_io.specs.declared.entries.Entry.{Entry}

-- The files; how many bytes the last call took.
pub record Shelf : Type 0 where
  pub entries : List Entry
  pub taken : ℕ

-- no files, and no calls so far
abbrev pub empty_shelf : Shelf
empty_shelf = record { entries = []; taken = 0 }
