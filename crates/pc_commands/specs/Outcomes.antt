-- `outcomes SRC COUNT`: the table of the outcomes of a core.
use Rattle.std.specs.Prelude.{ℕ, ◌≡◌, ◌<◌, ◌≤◌, ◌++◌, List, Result, Ok, Err, codes, decimal}
use Rattle.pc_args.specs.Line.{IsNumber}
use Rattle.pc_core.specs.CoreData.{CoreData}
use Rattle.pc_base.specs.Lists.{Text, line_end}
use Rattle.pc_outcomes.specs.{Tables.{StepsPass, TextsPass, IsOutcomesTable}, Texts.outcomes_text, declared.entry.Entry.Entry}
use Rattle.pc_refusals.specs.Verdict.{Verdict, refused}

-- The greatest number of seeds that are played.
abbrev pub seeds_limit : ℕ
seeds_limit = 10000

-- One to five digits, and a number from 1 to 10,000. There may be leading zeros.
abbrev pub IsCount : Text → ℕ → Type 0
IsCount text n = IsNumber 5 text n × (1 ≤ n) × (n ≤ seeds_limit)

-- `SRC: the plays of seeds 0 to S have more than 100000000 steps`
abbrev pub many_steps_line : Text → (seed : ℕ) → Text
many_steps_line name seed = name ++ (codes ": the plays of seeds 0 to " ++ (decimal seed ++ (codes " have more than 100000000 steps" ++ line_end)))

-- `SRC: the texts of seeds 0 to S have more than 67108864 bytes`
abbrev pub many_bytes_line : Text → (seed : ℕ) → Text
many_bytes_line name seed = name ++ (codes ": the texts of seeds 0 to " ++ (decimal seed ++ (codes " have more than 67108864 bytes" ++ line_end)))

-- The text of the table of the seeds below a count; or 8 at the first seed with which their plays have too many steps,
-- or their different texts too many bytes.
pub data OutcomesTelling (name : Text) (core : CoreData) (count : ℕ) : Result Text Verdict → Type 0 where
  tells : (entries : List Entry) (text : Text) → IsOutcomesTable core count entries → text ≡ outcomes_text count entries
      → OutcomesTelling name core count (Ok text)
  many_steps : (seed : ℕ) → seed < count → StepsPass core seed → OutcomesTelling name core count (Err (refused 8 (many_steps_line name seed)))
  many_bytes : (seed : ℕ) → seed < count → TextsPass core seed → OutcomesTelling name core count (Err (refused 8 (many_bytes_line name seed)))
