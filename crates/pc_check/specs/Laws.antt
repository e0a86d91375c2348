-- What the faults mean.
use Rattle.std.specs.Prelude.{◌≡◌, ℕ, ◌<◌, slice_get}
use Rattle.pc_core.specs.{CoreData.CoreData, Formed.Formed}
use Rattle.pc_ann.specs.declared.annotation.Ann.{Ann}
use Rattle.pc_sub.specs.{declared.faults.DeclFault.DeclFault, FirstFault.IsFirstDeclarationFault}
use Rattle.pc_valid.specs.{Valid.{Derivable, KeepsWritten}, NoRule.{NoRule, Unset, MeetsReached}}

-- A core with a node to which no rule applies has no valid annotation.
abbrev pub NoneWithoutRule : Type 0
NoneWithoutRule = (core : CoreData) (ann : Ann) (n : ℕ) → Formed core → NoRule core ann n → Derivable core → ⊥

-- Nor does one with a constructor that leaves a field unset.
abbrev pub NoneWithUnset : Type 0
NoneWithUnset = (core : CoreData) (ann : Ann) (m : ℕ) → Formed core → Unset core ann m → Derivable core → ⊥

-- Nor does one with a declaration that fails.
abbrev pub NoneWithFault : Type 0
NoneWithFault = (core : CoreData) (fault : DeclFault) → Formed core → IsFirstDeclarationFault core fault → Derivable core → ⊥

-- There is at most one node to which no rule applies.
abbrev pub OneNode : Type 0
OneNode = (core : CoreData) (a b : Ann) (n k : ℕ) → Formed core → NoRule core a n → NoRule core b k → n ≡ k

-- At most one constructor is the first that leaves a field unset.
abbrev pub OneConstructor : Type 0
OneConstructor = (core : CoreData) (a b : Ann) (m k : ℕ) → Formed core → Unset core a m → Unset core b k → m ≡ k

-- A core does not have both.
abbrev pub OneKindOfFault : Type 0
OneKindOfFault = (core : CoreData) (a b : Ann) (n m : ℕ) → Formed core → NoRule core a n → Unset core b m → ⊥

-- The notes before a node are the same in any two annotations in which they satisfy their rules from the masks that
-- reach them.
abbrev pub PrefixesAgree : Type 0
PrefixesAgree =
    (core : CoreData) (a b : Ann) (n k : ℕ) → Formed core → KeepsWritten core a → KeepsWritten core b → ((i : ℕ) → i < n → MeetsReached core a i)
    → ((i : ℕ) → i < n → MeetsReached core b i) → k < n → slice_get a.notes k ≡ slice_get b.notes k
