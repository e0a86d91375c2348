-- Runs that are under way.
use Rattle.std.specs.{Prelude.{◌≡◌, ℕ, ◌+◌, ◌≤◌, List, ◌++◌, length, Some}, List.count_by, FinMap.len}
use Rattle.pc_core.specs.CoreData.{CoreData}
use Rattle.pc_sched.specs.Schedules.{turn_limit}
use Rattle.pc_semantics.specs.{Configurations.Configuration, Step.{after, outcomes, outcomes_from, run_from}, Text.{ended_at, end_of, is_moved, is_skipped, waiting}}
use Rattle.pc_run.specs.{declared.counts.Counts.Counts, declared.counts.Progress.Progress, declared.counts.Progress.TheVariants.{Going, TooLong}}
use Rattle.pc_semantics.specs.declared.outcome.Outcome.TheVariants as outcome

-- These steps of a list are left; all steps before them moved or were skipped, and led to configuration c. The rest of
-- the whole run is given by those that are left.
pub record Underway (core : CoreData) (list : List ℕ) (c : Configuration) (k : Counts) (left : List ℕ) : Type 0 where
  pub taken : List ℕ
  pub list_is : list ≡ taken ++ left
  pub behind : (more : List ℕ) → run_from core c more ≡ after core (taken ++ more)
  pub moved : k.moved + count_by is_moved (outcomes_from core c left) ≡ count_by is_moved (outcomes core list)
  pub skipped : k.skipped + count_by is_skipped (outcomes_from core c left) ≡ count_by is_skipped (outcomes core list)
  pub end : ended_at (k.moved + k.skipped + 1) (outcomes_from core c left) ≡ end_of (outcomes core list)
  pub few_steps : k.moved + k.skipped + length left ≤ turn_limit
  pub few_objects : len c.objects ≤ 3 + (k.moved + k.skipped)
  pub few_messages : waiting c ≤ 1 + (k.moved + k.skipped)

-- The run of a list has come this far, and led to configuration c.
abbrev pub ReachedSoFar : CoreData → List ℕ → Configuration → List ℕ → Progress → Type 0
ReachedSoFar core list c left (Going k) = Underway core list c k left
ReachedSoFar core list c left (TooLong n) = (end_of (outcomes core list) ≡ Some (n, outcome.TooLong)) × (c ≡ after core list)
