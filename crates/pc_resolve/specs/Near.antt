-- The first elements of a row are looked through; those after them are looked up by hash.
use Rattle.std.specs.Prelude.{ℕ}

-- How many elements are looked through.
unfoldable pub near_count : ℕ
near_count = 8
