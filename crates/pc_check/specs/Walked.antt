-- A partial annotation.
use Rattle.std.specs.Prelude.{◌≡◌, ℕ, ◌<◌, length, Some}
use Rattle.pc_core.specs.CoreData.{CoreData}
use Rattle.pc_base.specs.Lists.{Each}
use Rattle.pc_ann.specs.declared.annotation.Ann.{Ann}
use Rattle.pc_rules.specs.Checks.{FillsFields, GoesWell}
use Rattle.pc_valid.specs.Valid.{KeepsWritten}

-- It has the notes of the nodes before n, and they satisfy their rules from the masks that reach them.
pub record Walked (core : CoreData) (ann : Ann) (n : ℕ) : Type 0 where
  pub slots : length ann.slots ≡ length core.slots
  pub written : KeepsWritten core ann
  pub notes : length ann.notes ≡ n
  pub before : (k : ℕ) → k < n → GoesWell core ann k
  pub sets : Each (λ m x. ((b : ℕ) → x.body ≡ Some b → b < n) → FillsFields core ann x) core.methods
