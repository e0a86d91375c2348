-- `run SRC SCHED`: the run of a core.
use Rattle.std.specs.Prelude.{ℕ, ◌≡◌, List, Some, None}
use Rattle.pc_base.specs.Lists.{Text}
use Rattle.pc_core.specs.CoreData.{CoreData}
use Rattle.pc_semantics.specs.{Step.outcomes, Text.{end_of, run_text}, declared.outcome.Outcome.TheVariants.TooLong}
use Rattle.pc_refusal_lines.specs.Lines.{too_long_line}
use Rattle.pc_refusals.specs.Verdict.{Verdict, done, stopped}

-- The run of a list of actors: done, with its text; or 12 with its text, at the step that would make a text that is too
-- long.
pub data Ran (name : Text) (core : CoreData) (list : List ℕ) : Verdict → Type 0 where
  whole : end_of (outcomes core list) ≡ None → Ran name core list (done (run_text core list))
  cut : (n : ℕ) → end_of (outcomes core list) ≡ Some (n, TooLong) → Ran name core list (stopped 12 (run_text core list) (too_long_line name n))
