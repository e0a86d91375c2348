-- What holds of the core of every source.
use Rattle.std.specs.Prelude.{ℕ, ◌≤◌, List, length}
use Rattle.pc_core.specs.{CoreData.CoreData, Formed.Formed}
use Rattle.pc_deriv.specs.Parts.{derivation_slot_limit, derivation_node_limit}
use Rattle.pc_top.specs.CoreOf.{CoreOf}

-- The core is small enough for its annotations to have a text.
abbrev pub IsSmall : CoreData → Type 0
IsSmall core = (length core.slots ≤ derivation_slot_limit) × (length core.nodes ≤ derivation_node_limit)

-- The core of a source fits together, and is small enough for its annotations to have a text.
abbrev pub CoresAreFormed : Type 0
CoresAreFormed = (bytes : List ℕ) (core : CoreData) → CoreOf bytes core → Formed core × IsSmall core
