-- What is proved of every step.
use Rattle.std.specs.Prelude.{◌≡◌, ◌≢◌, ℕ}
use Rattle.pc_core.specs.CoreData.{CoreData}
use Rattle.pc_semantics.specs.{declared.outcome.Outcome.TheVariants.Moved, Configurations.Configuration, Step.step}

-- A step that does not move leaves the configuration as it was, whether it is skipped, lacks something, or would make
-- too long a text.
abbrev pub OnlyMovesChange : Type 0
OnlyMovesChange = (core : CoreData) (c : Configuration) (i : ℕ) → (step core c i).0 ≢ Moved → (step core c i).1 ≡ c
