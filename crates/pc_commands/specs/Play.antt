-- `play SRC SEED`: the run of the list that a seed chooses.
use Rattle.std.specs.Prelude.{ℕ, List}
use Rattle.pc_choose.specs.Lists.{Chosen}
use Rattle.pc_core.specs.CoreData.{CoreData}
use Rattle.pc_base.specs.Lists.{Text}
use Rattle.pc_refusals.specs.Verdict.{Verdict}
use Rattle.pc_commands.specs.Run.{Ran}

-- The run of the list that the seed chooses.
abbrev pub RanChosen : Text → (seed : ℕ) → CoreData → Verdict → Type 0
RanChosen name seed core v = (list : List ℕ) × Chosen core seed list × Ran name core list v
