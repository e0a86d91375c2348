-- What is sent by no row of a table.
use Rattle.std.specs.Prelude.{ℕ, List}
use Rattle.pc_core.specs.CoreData.{CoreData}
use Rattle.pc_base.specs.Lists.{Has}
use Rattle.pc_semantics.specs.Configurations.{main_create}
use Rattle.pc_sends.specs.{declared.table.Row.Row, Tables.{IsOfActor, IsLater, row}}

-- A behaviour or a constructor of one of the file's actors, other than the one with which the program begins, that is
-- the target of none of these rows.
pub record IsUnsent (core : CoreData) (rows : List Row) (t : ℕ) : Type 0 where
  pub of_actor : IsOfActor core t
  pub later : IsLater (main_create core) t
  pub unsent : (e : ℕ) → Has rows (row e t) → ⊥
