-- The children of a node.
use Rattle.std.specs.Prelude.{ℕ, List, []}
use Rattle.pc_core.specs.declared.children.Row.{Row}
use Rattle.pc_core.specs.declared.children.Row.TheVariants as row

-- Their numbers, from where they are kept.
abbrev pub numbers_of : Row → List ℕ
numbers_of row.None = []
numbers_of (row.One numbers) = numbers
numbers_of (row.Two numbers) = numbers
numbers_of (row.Many held) = held.value
