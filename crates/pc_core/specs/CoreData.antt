-- A core as plain lists, and what is found in them.
use Rattle.std.specs.Prelude.{ℕ, List, ◌≡◌, ◌+◌, Option, Some, None, slice_get, slice_range}
use Rattle.pc_core.specs.{declared.declarations.EntityDef.EntityDef, declared.declarations.Method.Method, declared.nodes.Slot.Slot, declared.nodes.Node.Node, declared.declarations.FieldInfo.FieldInfo}
use Rattle.pc_base.specs.Lists.{◌>>=◌, place_of}

pub record CoreData : Type 0 where
  pub entities : List EntityDef
  pub methods : List Method
  pub slots : List Slot
  pub nodes : List Node
  -- the texts of the names of fields and methods, and of the names after a `.`
  pub names : List (List ℕ)

-- ---- what belongs to an entity or a method, and the fields and methods of an entity by their names

-- The methods of an entity.
abbrev pub own_methods : CoreData → EntityDef → List Method
own_methods core x = slice_range core.methods x.first_method (x.first_method + x.methods)

-- The slots of a method.
abbrev pub own_slots : CoreData → Method → List Slot
own_slots core x = slice_range core.slots x.first_slot (x.first_slot + x.slots)

-- The number after a method's last node: the body is the last one.
abbrev pub node_end : ℕ → Option ℕ → ℕ
node_end first None = first
node_end first (Some body) = body + 1

-- The index of the entity's field with this name.
abbrev pub field_named : CoreData → (entity name : ℕ) → Option ℕ
field_named core entity name = do
  x ← slice_get core.entities entity
  place_of (λ (f : FieldInfo). f.name) name x.fields 0

-- The number of the entity's method with this name.
abbrev pub method_named : CoreData → (entity name : ℕ) → Option ℕ
method_named core entity name = do
  x ← slice_get core.entities entity
  place_of (λ (m : Method). m.name) name (own_methods core x) x.first_method

-- The entity has a method with this name, which is this one.
abbrev pub IsMethod : CoreData → (entity name method : ℕ) → Type 0
IsMethod core entity name m =
    (y : Method) × (slice_get core.methods m ≡ Some y) × (y.entity ≡ entity) × (y.name ≡ name)
