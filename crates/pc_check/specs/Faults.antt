-- What shows that a core has no annotation.
use Rattle.std.specs.Prelude.{◌≡◌, ◌⊎◌, ℕ, ◌+◌, length, Result, Err}
use Rattle.pc_core.specs.CoreData.{CoreData}
use Rattle.pc_ann.specs.declared.annotation.Ann.{Ann}
use Rattle.pc_sub.specs.FirstFault.{IsFirstDeclarationFault}
use Rattle.pc_valid.specs.{Words.Masks, NoRule.{NoRule, Unset}}
use Rattle.pc_check.specs.declared.fault.CheckFault.{CheckFault}
use Rattle.pc_check.specs.declared.fault.CheckFault.TheVariants as fault

-- These masks reach node n, and with them no rule applies to it. The annotation has the notes of the nodes before n,
-- and no others.
abbrev pub StopsAt : CoreData → ℕ → Masks → Ann → Type 0
StopsAt core n m ann = (stop : NoRule core ann n) × (stop.masks ≡ m) × (length ann.notes ≡ n)

-- Constructor m is the first that leaves a field unset. The annotation has the notes of the nodes up to and including
-- its body, and no others.
abbrev pub InferenceLeavesUnset : CoreData → ℕ → Ann → Type 0
InferenceLeavesUnset core m ann = (left : Unset core ann m) × (length ann.notes ≡ left.body + 1)

-- What each fault means for the core. Running out of memory means nothing.
abbrev pub RefusesCore : CoreData → CheckFault → Type 0
RefusesCore core (fault.Decl f) = IsFirstDeclarationFault core f
RefusesCore core (fault.NoRule n l s ann) = StopsAt core n (l, s) ann
RefusesCore core (fault.Unset m ann) = InferenceLeavesUnset core m ann
RefusesCore core fault.Memory = Unit {0}

-- The result is this answer, or memory ran out.
abbrev pub AnswersAnnotation : Result Ann CheckFault → Result Ann CheckFault → Type 0
AnswersAnnotation result wanted = (result ≡ wanted) ⊎ (result ≡ Err fault.Memory)
