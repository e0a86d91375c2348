-- That what waits in the messages of a source's program is isolated.
use Rattle.std.specs.Prelude.{ℕ, List}
use Rattle.pc_core.specs.CoreData.{CoreData}
use Rattle.pc_isolation.specs.Laws.{AlwaysIsolated, AlwaysPassedWhole}
use Rattle.pc_top.specs.CoreOf.{CoreOf}

-- The source has a core, and after every list of actors, of any length, what waits in messages is isolated in depth:
-- not only the arguments themselves, but also what fields lead to from them. And what a message carries is unchanged
-- until it is taken, and is then handed over as a whole.
abbrev pub HasIsolatedCore : List ℕ → Type 0
HasIsolatedCore bytes = (core : CoreData) × CoreOf bytes core × AlwaysIsolated core × AlwaysPassedWhole core
