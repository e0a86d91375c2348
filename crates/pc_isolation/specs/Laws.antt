-- What is proved of every program with a valid annotation, in terms of the machine alone: it is isolated in depth, and
-- what a message carries is passed as a whole.
use Rattle.std.specs.Prelude.{ℕ, List}
use Rattle.pc_core.specs.CoreData.{CoreData}
use Rattle.pc_semantics.specs.Step.{after}
use Rattle.pc_isolation.specs.{Isolated.Isolated, Passed.{StaysWhole, TakenWhole}}

-- After every list of actors, of any length.
abbrev pub AlwaysIsolated : CoreData → Type 0
AlwaysIsolated core = (list : List ℕ) → Isolated core (after core list)

abbrev pub AlwaysPassedWhole : CoreData → Type 0
AlwaysPassedWhole core = (list : List ℕ) → StaysWhole core (after core list) × TakenWhole core (after core list)
