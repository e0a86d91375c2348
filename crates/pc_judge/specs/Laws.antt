-- Laws of the first fault of every annotation.
use Rattle.std.specs.Prelude.{◌≡◌}
use Rattle.pc_core.specs.{CoreData.CoreData, Formed.Formed}
use Rattle.pc_ann.specs.declared.annotation.Ann.{Ann}
use Rattle.pc_valid.specs.Valid.{Valid}
use Rattle.pc_judge.specs.{declared.faults.JudgeFault.JudgeFault, Faults.FirstAnnotationFault}

-- There is at most one first fault.
abbrev pub OneFirst : Type 0
OneFirst = (core : CoreData) (ann : Ann) (f g : JudgeFault) → Formed core → FirstAnnotationFault core ann f → FirstAnnotationFault core ann g → f ≡ g

-- If there is one, the annotation is not valid.
abbrev pub NotValid : Type 0
NotValid = (core : CoreData) (ann : Ann) (f : JudgeFault) → Formed core → FirstAnnotationFault core ann f → Valid core ann → ⊥
