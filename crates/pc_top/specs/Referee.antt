-- What the referee has recorded after each command.
use Rattle.std.specs.Prelude.{ℕ, ◌≡◌, Option, Some, IfSome}
use Rattle.pc_core.specs.CoreData.{CoreData}
use Rattle.pc_referee.specs.Asked.{Pairs}
use Rattle.pc_base.specs.Lists.{Text}
use Rattle.pc_args.specs.Asked.{Asked, judge}
use Rattle.pc_refusals.specs.Derivation.{JudgedFile}
use Rattle.pc_top.specs.CoreOf.{CoreOf}

-- A derivation of the core of a source: the bytes of both files, if they are known, and each of its nodes was asked.
pub record JudgedAll (source derivation : Option Text) (before after : Option Pairs) : Type 0 where
  pub bytes : Text
  pub of_file : IfSome source (λ b. bytes ≡ b)
  pub core : CoreData
  pub core_of : CoreOf bytes core
  pub judged : JudgedFile core derivation before after

-- The words ask for another command than `judge`, or for none.
abbrev pub IsNoJudge : Option Asked → Type 0
IsNoJudge asked = (source derivation : Text) → asked ≡ Some (judge source derivation) → ⊥

-- If the status of `judge` is 0, the referee was asked about each node of the source's core, in order, with its note in
-- the derivation. Any other command leaves the list of what it was asked unchanged.
abbrev pub Asks : (Text → Option Text) → Option Asked → (status : ℕ) → Option Pairs → Option Pairs → Type 0
Asks known asked status before after =
    ((source derivation : Text) → asked ≡ Some (judge source derivation) → status ≡ 0 → JudgedAll (known source) (known derivation) before after)
    × (IsNoJudge asked → after ≡ before)
