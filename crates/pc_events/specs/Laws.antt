-- Conflicting events of a run are ordered.
use Rattle.std.specs.Prelude.{◌⊎◌, ◌<◌, ℕ, List}
use Rattle.pc_core.specs.CoreData.{CoreData}
use Rattle.pc_semantics.specs.Safety.{Safe}
use Rattle.pc_events.specs.{Before.Before, Clock.Conflict}

-- In every run of a safe program two conflicting events are ordered.
abbrev pub ConflictsOrdered : Type 0
ConflictsOrdered = (core : CoreData) → Safe core → (list : List ℕ) (p q : ℕ) → Conflict core list p q → Before core list p q ⊎ Before core list q p

-- The earlier of two conflicting events comes before the later one.
abbrev pub EarlierComesBefore : Type 0
EarlierComesBefore = (core : CoreData) → Safe core → (list : List ℕ) (p q : ℕ) → p < q → Conflict core list p q → Before core list p q

-- In every run of every program, what comes before an event is earlier.
abbrev pub BeforeIsEarlier : Type 0
BeforeIsEarlier = (core : CoreData) (list : List ℕ) (p q : ℕ) → Before core list p q → p < q
