-- Laws of the names of every file.
use Rattle.std.specs.Prelude.{◌≡◌, ℕ, ◌≤◌, ◌<◌, List, [], ◌∷◌, ◌++◌, map, drop, Option, Some, None}
use Rattle.pc_base.specs.Lists.{Has, Ascends, Text}
use Rattle.pc_tree.specs.{declared.file.ParamDef.ParamDef, declared.written_names.Name.Name, declared.written_names.TypeRef.TypeRef, Kinds.first_own}
use Rattle.pc_names.specs.{declared.fault.NameFault.NameFault, Faults.{IsFirstNameFault, entity_faults, cycle_faults, NamesData, Collected, IsNameFault, IsNotMemory}}
use Rattle.pc_members.specs.Members.{IsTransitiveClosure, InCycle, entity_at}
use Rattle.pc_tree.specs.Tree as t
use Rattle.pc_names.specs.declared.fault.NameFault.TheVariants as fault

-- A file has one list above each of its entities.
abbrev pub OneClosing : Type 0
OneClosing = (file : t.File) (one other : List (List ℕ)) → IsTransitiveClosure file one → IsTransitiveClosure file other → one ≡ other

-- A file has at most one first fault, and not both a fault and names.
abbrev pub OneFault : Type 0
OneFault = (file : t.File) (f g : NameFault) → IsNotMemory f → IsNotMemory g → IsNameFault file f → IsNameFault file g → f ≡ g

abbrev pub NotBoth : Type 0
NotBoth = (file : t.File) (f : NameFault) (names : NamesData) → IsNotMemory f → IsNameFault file f → Collected file names → ⊥

-- ---- the fault with the smallest start

-- The start of a fault. A fault without a place counts as at the start of the text.
abbrev pub fault_start : NameFault → ℕ
fault_start (fault.Double s) = s.start
fault_start (fault.Unknown s) = s.start
fault_start fault.NoMain = 0
fault_start (fault.BadMain s) = s.start
fault_start (fault.Cycle s) = s.start
fault_start (fault.TooMany w s) = s.start
fault_start fault.Memory = 0

-- The places at which an entity's declarations may have a fault, in the order in which they occur in a text.
abbrev pub name_start : Name → ℕ
name_start n = n.span.start

abbrev pub result_places : Option TypeRef → List ℕ
result_places None = []
result_places (Some ty) = name_start ty.name ∷ []

abbrev pub field_places : List t.Field → List ℕ
field_places [] = []
field_places (f ∷ fs) = name_start f.name ∷ name_start f.ty.name ∷ field_places fs

abbrev pub param_places : List ParamDef → List ℕ
param_places [] = []
param_places (p ∷ ps) = name_start p.name ∷ name_start p.ty.name ∷ param_places ps

abbrev pub method_places : List t.Method → List ℕ
method_places [] = []
method_places (m ∷ ms) = name_start m.name ∷ ((param_places m.params ++ result_places m.result) ++ method_places ms)

abbrev pub declared_places : t.Entity → List ℕ
declared_places e = name_start e.name ∷ (map name_start e.provides ++ (field_places e.fields ++ method_places e.methods))

-- If an entity's places ascend, the first of its faults has the smallest start.
abbrev pub FirstIsLeast : Type 0
FirstIsLeast =
    (entities traits : List Text) (e : t.Entity) (f g : NameFault) → Ascends (declared_places e)
    → IsFirstNameFault f (entity_faults entities traits e) → IsNotMemory f → Has (entity_faults entities traits e) g → fault_start f ≤ fault_start g

-- ---- cycles

-- The trait from which a chain of `is` leads back to it, if no earlier one is such a trait.
abbrev pub FirstCycle : t.File → ℕ → Type 0
FirstCycle file a = InCycle file a × ((b : ℕ) → b < a → InCycle file b → ⊥)

-- With the lists of what is above a file's entities, the first fault of cycles is that of the first trait in a cycle,
-- and there is none if no trait is in a cycle.
abbrev pub CycleIsFirst : Type 0
CycleIsFirst =
    (file : t.File) (above : List (List ℕ)) (f : NameFault) → IsTransitiveClosure file above → IsNotMemory f → IsFirstNameFault f (cycle_faults first_own file.entities (drop first_own above))
    → (a : ℕ) × (e : t.Entity) × FirstCycle file a × entity_at file a e × (f ≡ fault.Cycle e.name.span)

abbrev pub NoCycle : Type 0
NoCycle = (file : t.File) (above : List (List ℕ)) → IsTransitiveClosure file above → cycle_faults first_own file.entities (drop first_own above) ≡ [] → (a : ℕ) → InCycle file a → ⊥
