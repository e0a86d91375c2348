-- Further words on a core, for contracts of its own code.
use Rattle.std.specs.Prelude.{ℕ, List, ◌≡◌, Some, slice_get}
use Rattle.pc_core.specs.{declared.declarations.EntityDef.EntityDef, declared.declarations.Method.Method, declared.nodes.Slot.Slot, declared.nodes.Node.Node, declared.declarations.FieldInfo.FieldInfo, CoreData.CoreData}

-- The core of these lists.
abbrev pub data_of : List EntityDef → List Method → List Slot → List Node → List (List ℕ) → CoreData
data_of entities methods slots nodes names = record { entities = entities; methods = methods; slots = slots; nodes = nodes; names = names }

-- The entity has a field with this name at this index.
abbrev pub IsField : CoreData → (entity name index : ℕ) → Type 0
IsField core entity name i =
    (x : EntityDef) × (f : FieldInfo) × (slice_get core.entities entity ≡ Some x) × (slice_get x.fields i ≡ Some f) × (f.name ≡ name)

abbrev pub field_name : FieldInfo → ℕ
field_name f = f.name

abbrev pub method_name : Method → ℕ
method_name m = m.name
