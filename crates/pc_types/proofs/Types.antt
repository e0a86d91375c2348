-- When a value is of a type: its own entity is that of the type or conforms to it, and unless the form is `tag`, all
-- fields of its object have values. A type above another requires no more of a value than that one.
use Rattle.std.specs.{Prelude.{◌≡◌, ℕ, ◌<◌, Bool, true, false, List, [], ◌∷◌, length, Option, Some, None, slice_get}, FinMap.get}
use Rattle.pc_heap.specs.{Objects.{ObjectMap, Object}, declared.value.Value.Value, declared.value.Value.TheVariants.{Prim, At}}
use Rattle.pc_caps.specs.{Tables.plain, declared.capability.Cap.Cap, declared.capability.Form.Form}
use Rattle.pc_caps.specs.declared.capability.Form.TheVariants as form
use Rattle.pc_core.specs.{declared.declarations.EntityDef.EntityDef, declared.declarations.ParamInfo.ParamInfo, CoreData.CoreData, Nodes.NamesPrimitive}
use Rattle.pc_tree.specs.Kinds.{may_have_fields}
use Rattle.pc_semantics.specs.Configurations.{value_entity}
use Rattle.pc_valid.specs.Words.{Ty}
use Rattle.pc_types.proofs.Under.{Under}

-- ---- values

-- What is of this form is read, written or called, and not only compared and sent to.
abbrev pub sees : Form → Bool
sees form.Tag = false
sees f = true

-- Each field has a value.
abbrev pub AllSet : Object → Type 0
AllSet o = (i : ℕ) → i < length o.fields → (v : Value) × (slice_get o.fields i ≡ Some (Some v))

-- The value is not an object with a field that has no value.
abbrev pub Finished : ObjectMap → Value → Type 0
Finished objects (At a) = (o : Object) × (get objects a ≡ Some o) × AllSet o
Finished objects v = Unit {0}

-- The value is written as one of entity d is: as an object's address if d is a class or an actor, and as a primitive if
-- d is None or one of the file.
abbrev pub OfKind : CoreData → ℕ → Value → Type 0
OfKind core d (Prim e) = NamesPrimitive core e
OfKind core d (At a) = (x : EntityDef) × (slice_get core.entities d ≡ Some x) × (may_have_fields x.kind ≡ true)
OfKind core d v = Unit {0}

pub record OfType (core : CoreData) (objects : ObjectMap) (t : Ty) (v : Value) : Type 0 where
  pub entity : ℕ
  pub is_entity : value_entity objects v ≡ Some entity
  pub below : Under core entity t.0
  pub kind : OfKind core entity v
  pub finished : sees t.1 ≡ true → Finished objects v

-- If there is no type, any value will do.
abbrev pub OfSome : CoreData → ObjectMap → Option Ty → Value → Type 0
OfSome core objects None v = Unit {0}
OfSome core objects (Some t) v = OfType core objects t v

-- The type of what a place of this entity and capability holds.
abbrev pub held_in : ℕ × Cap → Ty
held_in p = (p.0, plain p.1)

-- Arguments, each of the type of its parameter.
abbrev pub param_type : ParamInfo → Ty
param_type p = (p.entity, plain p.cap)

abbrev pub ArgumentsOk : CoreData → ObjectMap → List Value → List ParamInfo → Type 0
ArgumentsOk core objects [] [] = Unit {0}
ArgumentsOk core objects (v ∷ vs) (p ∷ ps) = OfType core objects (param_type p) v × ArgumentsOk core objects vs ps
ArgumentsOk core objects vs ps = ⊥

-- ---- types

-- A value of type a is one of type b.
abbrev pub LowerType : CoreData → Ty → Ty → Type 0
LowerType core a b = Under core a.0 b.0 × (sees b.1 ≡ true → sees a.1 ≡ true)

abbrev pub Lower : CoreData → Option Ty → Option Ty → Type 0
Lower core a None = Unit {0}
Lower core None (Some b) = ⊥
Lower core (Some a) (Some b) = LowerType core a b

-- ---- what is on a stack

-- What a place of the stack holds: a value of this type, if there is one; and, if `own` is true, the object of the
-- frame.
pub record Want : Type 0 where
  pub ty : Option Ty
  pub own : Bool

abbrev pub wanted : Option Ty → Want
wanted ty = record { ty = ty; own = false }

-- The value is what is wanted, in a frame of this object.
abbrev pub Answers : CoreData → ObjectMap → Value → Want → Value → Type 0
Answers core objects this w v = OfSome core objects w.ty v × (w.own ≡ true → v ≡ this)

abbrev pub StackOk : CoreData → ObjectMap → Value → List Want → List Value → Type 0
StackOk core objects this [] [] = Unit {0}
StackOk core objects this (w ∷ ws) (v ∷ vs) = Answers core objects this w v × StackOk core objects this ws vs
StackOk core objects this ws vs = ⊥
