-- The first fault of an annotation of a core.
use Rattle.std.specs.Prelude.{◌≡◌, ℕ, ◌<◌, length, Some, slice_get}
use Rattle.pc_caps.specs.declared.capability.Cap.{Cap}
use Rattle.pc_core.specs.{declared.declarations.Method.Method, declared.nodes.Slot.Slot, CoreData.CoreData}
use Rattle.pc_base.specs.Lists.{Each}
use Rattle.pc_ann.specs.declared.annotation.Ann.{Ann}
use Rattle.pc_sub.specs.{Declarations.DeclOk, FirstFault.{FirstWithout, IsFirstDeclarationFault}}
use Rattle.pc_valid.specs.Valid.{MeetsRule, KeepsWritten, SetsFields}
use Rattle.pc_judge.specs.declared.faults.JudgeFault.{JudgeFault}
use Rattle.pc_judge.specs.declared.faults.JudgeFault.TheVariants as fault

-- There is one entry for each slot and one note for each node.
abbrev pub HasShape : CoreData → Ann → Type 0
HasShape core ann = (length ann.slots ≡ length core.slots) × (length ann.notes ≡ length core.nodes)

-- Slot number k, which is y, has the type that is written for it, if one is.
abbrev pub KeepsType : Ann → ℕ → Slot → Type 0
KeepsType ann k y = (ty : ℕ × Cap) → y.written ≡ Some ty → slice_get ann.slots k ≡ Some ty

-- Slot number k is the first one whose type is not the written one.
abbrev pub FirstWrong : CoreData → Ann → ℕ → Type 0
FirstWrong core ann k = (y : Slot) × FirstWithout (KeepsType ann) core.slots k y

-- After node n, if it is the body of a constructor, all fields are set.
abbrev pub SetsAfter : CoreData → Ann → ℕ → Type 0
SetsAfter core ann n = Each (λ m x. x.body ≡ Some n → SetsFields core ann x) core.methods

-- There is no fault before node n.
pub record NothingWrongBefore (core : CoreData) (ann : Ann) (n : ℕ) : Type 0 where
  pub declarations : DeclOk core
  pub shape : HasShape core ann
  pub written : KeepsWritten core ann
  pub rules : (k : ℕ) → k < n → MeetsRule core ann k
  pub sets : (k : ℕ) → k < n → SetsAfter core ann k

-- There is no fault before node n, and the node does not satisfy its rule.
abbrev pub FailsRule : CoreData → Ann → ℕ → Type 0
FailsRule core ann n = (n < length core.nodes) × NothingWrongBefore core ann n × (MeetsRule core ann n → ⊥)

-- There is no fault before the body of method m, a constructor, and the body satisfies its rule; but after it some
-- field is not set.
abbrev pub LeavesUnset : CoreData → Ann → ℕ → Type 0
LeavesUnset core ann m =
    (x : Method) × (b : ℕ) × (slice_get core.methods m ≡ Some x) × (x.body ≡ Some b) × NothingWrongBefore core ann b × MeetsRule core ann b
    × (SetsFields core ann x → ⊥)

-- The first fault.
abbrev pub FirstAnnotationFault : CoreData → Ann → JudgeFault → Type 0
FirstAnnotationFault core ann (fault.Decl f) = IsFirstDeclarationFault core f
FirstAnnotationFault core ann fault.Shape = DeclOk core × (HasShape core ann → ⊥)
FirstAnnotationFault core ann (fault.Slot k) = DeclOk core × HasShape core ann × FirstWrong core ann k
FirstAnnotationFault core ann (fault.Node n) = FailsRule core ann n
FirstAnnotationFault core ann (fault.Unset m) = LeavesUnset core ann m
