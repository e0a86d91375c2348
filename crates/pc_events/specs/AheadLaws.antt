-- What is proved of each step: it ends as was said in advance, and only accesses change fields.
use Rattle.std.specs.Prelude.{◌≡◌, ℕ, List}
use Rattle.pc_core.specs.CoreData.{CoreData}
use Rattle.pc_semantics.specs.{declared.outcome.Lack.Lack, declared.outcome.Outcome.Outcome, declared.outcome.Outcome.TheVariants.{Moved, Skipped, Lacks, TooLong}, Configurations.Configuration, Step.{step, after}, declared.ahead.Ahead.Ahead, Ahead.ahead_of}
use Rattle.pc_events.specs.Accesses.{OnlyAccessed}
use Rattle.pc_semantics.specs.declared.ahead.Ahead.TheVariants as ahead

-- How a step ends if this was said in advance.
abbrev pub Agrees : Ahead → Outcome → Type 0
Agrees ahead.Skipped o = o ≡ Skipped
Agrees ahead.Lacks o = (l : Lack) × (o ≡ Lacks l)
Agrees ahead.TooLong o = o ≡ TooLong
Agrees ahead.Take o = o ≡ Moved
Agrees ahead.Spawn o = o ≡ Moved
Agrees (ahead.Send a) o = o ≡ Moved
Agrees ahead.Task o = o ≡ Moved

-- In every configuration, whether a run leads to it or not.
abbrev pub AheadAgrees : Type 0
AheadAgrees = (core : CoreData) (c : Configuration) (i : ℕ) → Agrees (ahead_of core c i) (step core c i).0

-- In every configuration that a run of any core leads to, even if the step does not move.
abbrev pub OnlyAccessesTouchFields : Type 0
OnlyAccessesTouchFields = (core : CoreData) (list : List ℕ) (i : ℕ) → OnlyAccessed core (after core list) (step core (after core list) i).1 i
