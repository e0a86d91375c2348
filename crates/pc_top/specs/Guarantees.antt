-- What compilers may rely on in a source's program.
use Rattle.std.specs.Prelude.{ℕ, List}
use Rattle.pc_ann.specs.declared.annotation.Ann.{Ann}
use Rattle.pc_core.specs.CoreData.{CoreData}
use Rattle.pc_valid.specs.Valid.{Valid}
use Rattle.pc_isolation.specs.ForGood.{ValForGood}
use Rattle.pc_guarantees.specs.{Owned.AlwaysOwned, Progress.AlwaysProgresses, Reads.ReadsImmutable}
use Rattle.pc_swap.specs.Confluence.{Decided}
use Rattle.pc_top.specs.CoreOf.{CoreOf}

-- The source has a core in which what is `val` is immutable for good, and so is what is read through an expression that
-- a derivation notes as `val`.
abbrev pub HasFrozenCore : List ℕ → Type 0
HasFrozenCore bytes = (core : CoreData) × CoreOf bytes core × ValForGood core × ((ann : Ann) → Valid core ann → ReadsImmutable core ann)

-- The source has a core in which objects have single owners.
abbrev pub HasOwnedCore : List ℕ → Type 0
HasOwnedCore bytes = (core : CoreData) × CoreOf bytes core × AlwaysOwned core

-- The source has a core in which each actor that has work can step.
abbrev pub HasProgressingCore : List ℕ → Type 0
HasProgressingCore bytes = (core : CoreData) × CoreOf bytes core × AlwaysProgresses core

-- The source has a core in which arrivals decide where a schedule leads.
abbrev pub HasDecidedCore : List ℕ → Type 0
HasDecidedCore bytes = (core : CoreData) × CoreOf bytes core × Decided core
