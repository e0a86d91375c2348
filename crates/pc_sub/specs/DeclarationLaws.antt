-- Laws of the first declaration that fails.
use Rattle.std.specs.Prelude.{◌≡◌, ◌↔◌, Some}
use Rattle.pc_core.specs.{CoreData.CoreData, Formed.Formed}
use Rattle.pc_sub.specs.{Declarations.DeclOk, DeclarationFaults.first_fault, FirstFault.IsFirstDeclarationFault, declared.faults.DeclFault.DeclFault}

-- The declarations of a core fit iff none is the first that fails.
abbrev pub NoFaultWhereFit : Type 0
NoFaultWhereFit = (core : CoreData) → Formed core → DeclOk core ↔ ((f : DeclFault) → IsFirstDeclarationFault core f → ⊥)

-- At most one is.
abbrev pub OneFirstFault : Type 0
OneFirstFault = (core : CoreData) (f g : DeclFault) → Formed core → IsFirstDeclarationFault core f → IsFirstDeclarationFault core g → f ≡ g

-- It is what is computed.
abbrev pub FirstIsComputed : Type 0
FirstIsComputed = (core : CoreData) (f : DeclFault) → Formed core → (first_fault core ≡ Some f) ↔ IsFirstDeclarationFault core f
