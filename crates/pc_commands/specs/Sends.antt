-- `sends SRC`: the lines of a table of who sends what.
use Rattle.std.specs.Prelude.{ℕ, ◌≡◌, List, ◌++◌, IsSome, slice_get, codes, flat_map}
use Rattle.pc_ann.specs.declared.annotation.Ann.{Ann}
use Rattle.pc_core.specs.CoreData.{CoreData}
use Rattle.pc_base.specs.Lists.{Each, Text, line_end}
use Rattle.pc_noted_receivers.specs.Noted.{noted_entities}
use Rattle.pc_semantics.specs.Step.{after}
use Rattle.pc_sends.specs.{Tables.{IsTable, TableTells}, declared.table.Row.Row, declared.table.Table.Table}
use Rattle.pc_run_events.specs.Lines.{name_of_entity, method_text, MethodHasName}

-- ---- lines

-- These words, a method and a line end.
abbrev pub line_with : Text → CoreData → ℕ → Text
line_with words core t = words ++ (method_text core (slice_get core.methods t) ++ line_end)

-- `A sends B.m`
abbrev pub row_line : CoreData → Row → Text
row_line core row = name_of_entity (slice_get core.entities row.from) ++ line_with (codes " sends ") core row.target

-- Who sends what, a line each, followed by what is never sent, `never B.m`.
abbrev pub table_text : CoreData → Table → Text
table_text core table = flat_map (row_line core) table.rows ++ flat_map (line_with (codes "never ") core) table.never

-- The text of the table of who sends what, with the entities that the annotation notes at the nodes.
abbrev pub IsSendsText : CoreData → Ann → Text → Type 0
IsSendsText core ann text = (table : Table) × IsTable core (noted_entities ann) table × (text ≡ table_text core table)

-- Everything that its lines name exists.
pub record NamesAreThere (core : CoreData) (table : Table) : Type 0 where
  pub from : Each (λ i row. IsSome (slice_get core.entities row.from)) table.rows
  pub sent : Each (λ i row. MethodHasName core row.target) table.rows
  pub never : Each (λ i t. MethodHasName core t) table.never

-- Over every list of actors, of any length: each frame is of a method that, by the table, may begin or be sent, each
-- message that is about to be sent has its row, and no message of a method that, by the table, is never sent waits
-- anywhere.
abbrev pub TellsEveryRun : CoreData → Table → Type 0
TellsEveryRun core table = (list : List ℕ) → TableTells core table (after core list)
