-- The lines of a table of who sends what, by its two lists.
use Rattle.std.specs.Prelude.{ℕ, List, codes, flat_map}
use Rattle.pc_core.specs.CoreData.{CoreData}
use Rattle.pc_base.specs.Lists.{Text}
use Rattle.pc_sends.specs.declared.table.Row.{Row}
use Rattle.pc_commands.specs.Sends.{line_with, row_line}

abbrev pub rows_text : CoreData → List Row → Text
rows_text core rows = flat_map (row_line core) rows

-- `never B.m`
abbrev pub never_text : CoreData → List ℕ → Text
never_text core ts = flat_map (line_with (codes "never ") core) ts
