-- `schedule SRC SEED`: the line of the list that a seed chooses.
use Rattle.std.specs.Prelude.{ℕ, List}
use Rattle.pc_choose.specs.Lists.{Chosen}
use Rattle.pc_core.specs.CoreData.{CoreData}
use Rattle.pc_base.specs.Lists.{Text}
use Rattle.pc_sched_lines.specs.Lines.{IsLine}

-- The list of steps that the seed chooses, as one line of a schedule.
abbrev pub IsChosenLine : (seed : ℕ) → CoreData → Text → Type 0
IsChosenLine seed core text = (list : List ℕ) × Chosen core seed list × IsLine list text
