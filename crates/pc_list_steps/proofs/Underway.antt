-- Runs that are under way.
use Rattle.std.specs.{Prelude.{◌≡◌, ℕ, ◌+◌, ◌≤◌, List, ◌++◌, take, drop}, FinMap.len}
use Rattle.pc_core.specs.CoreData.{CoreData}
use Rattle.pc_semantics.specs.{Configurations.Configuration, Step.{after, outcomes, outcomes_from, run_from}, Text.{ended_at, end_of, waiting}}

-- The first n steps of the list moved or were skipped, and led to configuration c. What is left gives the rest of the run.
pub record Underway (core : CoreData) (list : List ℕ) (n : ℕ) (c : Configuration) : Type 0 where
  pub behind : (more : List ℕ) → run_from core c more ≡ after core (take n list ++ more)
  pub end : ended_at (n + 1) (outcomes_from core c (drop n list)) ≡ end_of (outcomes core list)
  pub few_objects : len c.objects ≤ 3 + n
  pub few_messages : waiting c ≤ 1 + n
