-- The vocabulary of the typing rules: types, places and masks, slots, fields and methods by their names, and when a
-- value may be used for another.
use Rattle.std.specs.Prelude.{◌≡◌, ◌⊎◌, ℕ, true, ◌+◌, ◌<◌, ◌-◌, List, [], ◌∷◌, ◌++◌, length, Option, Some, None, slice_get}
use Rattle.pc_caps.specs.{Tables.{IsBelow, unalias, stored, lift, sendable, sendable_form}, declared.capability.Cap.Cap, declared.capability.Form.Form}
use Rattle.pc_core.specs.{declared.declarations.EntityDef.EntityDef, declared.declarations.FieldInfo.FieldInfo, declared.declarations.Method.Method, declared.declarations.MethodKind.MethodKind, declared.declarations.ParamInfo.ParamInfo, declared.nodes.Slot.Slot, declared.nodes.Node.Node, CoreData.CoreData}
use Rattle.pc_base.specs.Lists.{Has}
use Rattle.pc_sub.specs.Declarations.{Sub}
use Rattle.pc_masks.specs.{declared.mask.Mask.Mask, Masks.{IsInMask, empty, first, meet}}
use Rattle.pc_ann.specs.declared.annotation.Note.{Note}
use Rattle.pc_caps.specs.declared.capability.Form.TheVariants as form
use Rattle.pc_core.specs.declared.declarations.MethodKind.TheVariants as method
use Rattle.pc_core.specs.declared.nodes.NodeKind.TheVariants as node_kind

-- ---- types

-- The type of a value: its entity and its form.
abbrev pub Ty : Type 0
Ty = ℕ × Form

-- What a slot, a field or a parameter holds: its entity and its capability.
abbrev pub Place : Type 0
Place = ℕ × Cap

-- A value of this form may be stored at this capability.
abbrev pub FormFits : Form → Cap → Type 0
FormFits given wanted = IsBelow given (unalias wanted)

-- A value of the first type may be used wherever one of the second is expected.
abbrev pub IsLower : CoreData → Ty → Ty → Type 0
IsLower core given wanted = Sub core given.0 wanted.0 × IsBelow given.1 wanted.1

-- A value of this type may be stored at this place.
abbrev pub GoesTo : CoreData → Ty → Place → Type 0
GoesTo core given place = Sub core given.0 place.0 × FormFits given.1 place.1

-- A value of this entity that may be read.
abbrev pub ReadsValue : ℕ → Option Ty → Type 0
ReadsValue entity ty = (seen : Form) × (ty ≡ Some (entity, seen)) × IsBelow seen form.Box

-- The type of two branches: the higher one if one is below the other, and otherwise none. If each is below the other it
-- is that of the second branch.
pub data Joined (core : CoreData) : (first second both : Option Ty) → Type 0 where
  to_second : {left right : Ty} → IsLower core left right → Joined core (Some left) (Some right) (Some right)
  to_first : {left right : Ty} → (IsLower core left right → ⊥) → IsLower core right left → Joined core (Some left) (Some right) (Some left)
  to_none : {left right : Ty} → (IsLower core left right → ⊥) → (IsLower core right left → ⊥) → Joined core (Some left) (Some right) None
  no_first : {right : Option Ty} → Joined core None right None
  no_second : {left : Ty} → Joined core (Some left) None None

-- The form of a `recover`, by the capability written after it and by the form of its body.
pub data Recovers : Option Cap → Form → Form → Type 0 where
  as_lifted : {body : Form} → Recovers None body (lift body)
  as_written : {body : Form} {written : Cap} → FormFits (lift body) written → Recovers (Some written) body (unalias written)

-- ---- masks

-- The slots that are live and the fields that are set.
abbrev pub Masks : Type 0
Masks = Mask × Mask

-- Those before a node, and those after it.
abbrev pub before : Note → Masks
before note = (note.live_before, note.set_before)

abbrev pub masks_after : Note → Masks
masks_after note = (note.live_after, note.set_after)

-- What is live and set after both of two paths.
abbrev pub on_both_ways : Masks → Masks → Masks
on_both_ways one other = (meet one.0 other.0, meet one.1 other.1)

-- Nodes with these notes are evaluated one after the other: the masks before each are those after the one before it.
abbrev pub OneAfterOther : List Note → (from to : Masks) → Type 0
OneAfterOther [] from to = from ≡ to
OneAfterOther (note ∷ notes) from to = (before note ≡ from) × OneAfterOther notes (masks_after note) to

-- ---- methods and their slots

abbrev pub IsConstructor : MethodKind → Type 0
IsConstructor kind = (kind ≡ method.New) ⊎ (kind ≡ method.Spawn)

-- All fields of this entity are in the mask.
abbrev pub AllSet : CoreData → ℕ → Mask → Type 0
AllSet core entity set = (owner : EntityDef) → slice_get core.entities entity ≡ Some owner → (number : ℕ) → number < length owner.fields → IsInMask set number

-- The mask of the fields that are set when a method starts: none in a constructor, and all of them elsewhere.
abbrev pub StartsSet : CoreData → Method → Mask → Type 0
StartsSet core home set =
    (IsConstructor home.kind → set ≡ empty)
    × ((IsConstructor home.kind → ⊥) → (owner : EntityDef) → slice_get core.entities home.entity ≡ Some owner → set ≡ first (length owner.fields))

-- The types of all slots of a core.
abbrev pub Slots : Type 0
Slots = List Place

-- The slot with this number among those of the node's method, with what it holds.
pub record SlotOf (core : CoreData) (slots : Slots) (node : Node) (number : ℕ) : Type 0 where
  pub home : Method
  pub is_home : slice_get core.methods node.method ≡ Some home
  pub slot : Slot
  pub is_slot : slice_get core.slots (home.first_slot + number) ≡ Some slot
  pub entity : ℕ
  pub cap : Cap
  pub holds : slice_get slots (home.first_slot + number) ≡ Some (entity, cap)

-- The node may use a slot: there is no `recover` between the two, or the slot holds something that may be sent.
abbrev pub Reachable : Node → Slot → Cap → Type 0
Reachable node slot held = (slot.depth ≡ node.depth) ⊎ (sendable held ≡ true)

-- What a slot holds from its definition on: what is written there, or else an alias of the value.
abbrev pub DefinedAs : Option Place → Ty → Place → Type 0
DefinedAs written value place = (written ≡ Some place) ⊎ ((written ≡ None) × (place ≡ (value.0, stored value.1)))

-- One of these nodes defines the slot with this number.
abbrev pub Defines : CoreData → List ℕ → ℕ → Type 0
Defines core items number = (item : ℕ) × (node : Node) × Has items item × (slice_get core.nodes item ≡ Some node) × (node.kind ≡ node_kind.Define number)

-- ---- fields and methods by name

-- The field with this name of an entity, with its number among the fields there.
pub record FieldOf (core : CoreData) (entity name : ℕ) : Type 0 where
  pub owner : EntityDef
  pub is_owner : slice_get core.entities entity ≡ Some owner
  pub number : ℕ
  pub field : FieldInfo
  pub is_field : slice_get owner.fields number ≡ Some field
  pub has_name : field.name ≡ name

-- What a field holds.
abbrev pub place : FieldInfo → Place
place field = (field.entity, field.cap)

-- A call: the notes of its arguments, and after them that of the receiver, whose entity has a method with this name.
pub record Called (core : CoreData) (notes : List Note) (name : ℕ) : Type 0 where
  pub arguments : List Note
  pub receiver : Note
  pub children : notes ≡ arguments ++ receiver ∷ []
  pub to : Ty
  pub is_to : receiver.ty ≡ Some to
  pub number : ℕ
  pub called : Method
  pub is_called : slice_get core.methods number ≡ Some called
  pub has_entity : called.entity ≡ to.0
  pub has_name : called.name ≡ name

-- There are as many arguments as parameters, and each may be stored at its parameter.
abbrev pub Go : CoreData → List Note → List ParamInfo → Type 0
Go core [] [] = Unit {0}
Go core (note ∷ notes) (param ∷ params) = ((value : Ty) × (note.ty ≡ Some value) × GoesTo core value (param.entity, param.cap)) × Go core notes params
Go core notes params = ⊥

-- Each argument is a value that may be sent, or goes to a parameter that holds something that may be sent.
abbrev pub Sendable : List Note → List ParamInfo → Type 0
Sendable [] [] = Unit {0}
Sendable (note ∷ notes) (param ∷ params) =
    ((value : Ty) × (note.ty ≡ Some value) × ((sendable_form value.1 ≡ true) ⊎ (sendable param.cap ≡ true))) × Sendable notes params
Sendable notes params = ⊥

-- The last element of a list.
abbrev pub last : {A : Type 0} → List A → Option A
last elements = slice_get elements (length elements - 1)

-- The node reads or writes a field of `this` while the object is not complete: it is in a constructor and in no
-- `recover`, its last child is `this`, and before that child some field is not set.
pub record Incomplete (core : CoreData) (notes : List Note) (node : Node) : Type 0 where
  pub home : Method
  pub is_home : slice_get core.methods node.method ≡ Some home
  pub constructor : IsConstructor home.kind
  pub in_no_recover : node.depth ≡ 0
  pub child : ℕ
  pub is_child : last node.children ≡ Some child
  pub origin : Node
  pub is_origin : slice_get core.nodes child ≡ Some origin
  pub is_this : origin.kind ≡ node_kind.This
  pub note : Note
  pub is_note : last notes ≡ Some note
  pub not_all_set : AllSet core home.entity note.set_before → ⊥
