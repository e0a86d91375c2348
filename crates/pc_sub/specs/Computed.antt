-- When an entity is below another, as it is computed.
use Rattle.std.specs.Prelude.{ℕ, Bool, false, ◌&&◌, ◌||◌, Option, Some, None, slice_get}
use Rattle.pc_core.specs.{declared.declarations.EntityDef.EntityDef, CoreData.CoreData}
use Rattle.pc_sub.specs.{DeclarationFaults.{is_chain, conforms}, Declarations.is_structural}
use Rattle.pc_tree.specs.declared.kinds.EntityKind.TheVariants as kind

abbrev pub is_interface : Option EntityDef → Bool
is_interface None = false
is_interface (Some x) = is_structural x.kind

abbrev pub is_sub : CoreData → (entity above : ℕ) → Bool
is_sub core a b = is_chain core a b || (is_interface (slice_get core.entities b) && conforms core a b)
