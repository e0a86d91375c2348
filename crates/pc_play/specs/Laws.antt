-- The lines of the lists of seeds.
use Rattle.std.specs.Prelude.{ℕ, ◌≤◌, List, length}
use Rattle.pc_core.specs.CoreData.{CoreData}
use Rattle.pc_sched.specs.Schedules.{schedule_limit}
use Rattle.pc_sched_lines.specs.Lines.{IsLine}
use Rattle.pc_choose.specs.Lists.{Chosen}

-- The line of the list of a seed, with its line end, has no more bytes than a schedule may have.
abbrev pub LinesFit : Type 0
LinesFit = (core : CoreData) (seed : ℕ) (list line : List ℕ) → Chosen core seed list → IsLine list line → length line ≤ schedule_limit
