-- When a configuration is well typed: each object holds values of its fields' types, each actor's frames can go on, and
-- the messages that wait for it are behaviours of its entity, after its constructor if that has not begun.
use Rattle.std.specs.{Prelude.{◌≡◌, ◌⊎◌, ℕ, ◌<◌, true, List, [], ◌∷◌, length, Some, slice_get}, FinMap.get}
use Rattle.pc_heap.specs.{Objects.{ObjectMap, class_at, made_by, Object}, declared.value.Address.Address, declared.value.Value.Value}
use Rattle.pc_caps.specs.{Tables.plain, declared.capability.Form.Form}
use Rattle.pc_tree.specs.declared.kinds.EntityKind.TheVariants as kind
use Rattle.pc_core.specs.{declared.declarations.EntityDef.EntityDef, declared.declarations.FieldInfo.FieldInfo, declared.declarations.Method.Method, declared.declarations.MethodKind.MethodKind, CoreData.CoreData}
use Rattle.pc_core.specs.declared.declarations.MethodKind.TheVariants as method
use Rattle.pc_tree.specs.Kinds.{may_have_fields}
use Rattle.pc_ann.specs.declared.annotation.Ann.{Ann}
use Rattle.pc_semantics.specs.{declared.actors.Actor.Actor, declared.mailbox.Message.Message, Configurations.{Configuration, own_address}}
use Rattle.pc_types.proofs.{Types.{OfType, ArgumentsOk}, Frames.FramesOk}

-- ---- objects

-- The type of what a field holds.
abbrev pub field_type : FieldInfo → ℕ × Form
field_type f = (f.entity, plain f.cap)

-- An object of a class or an actor; what its fields hold is of their types.
pub record ObjectOk (core : CoreData) (objects : ObjectMap) (o : Object) : Type 0 where
  pub entity : EntityDef
  pub is_entity : slice_get core.entities o.entity ≡ Some entity
  pub placed : may_have_fields entity.kind ≡ true
  pub room : length o.fields ≡ length entity.fields
  pub fields : (i : ℕ) (f : FieldInfo) (v : Value) → slice_get entity.fields i ≡ Some f → slice_get o.fields i ≡ Some (Some v) → OfType core objects (field_type f) v

-- The address of an object of entity e, with `count` actors: its maker is one of them and has made it before, an
-- actor's object is the first of its maker, and the stream's is that of actor 0.
pub record PlaceOk (core : CoreData) (objects : ObjectMap) (count : ℕ) (a : Address) (e : ℕ) : Type 0 where
  pub maker : a.maker < count
  pub serial : a.serial < made_by objects a.maker
  pub first : (x : EntityDef) → slice_get core.entities e ≡ Some x → x.kind ≡ kind.Actor → a.serial ≡ 0
  pub stream : e ≡ 5 → a.maker ≡ 0

pub record ObjectsOk (core : CoreData) (objects : ObjectMap) (count : ℕ) : Type 0 where
  pub each : (a : Address) (o : Object) → get objects a ≡ Some o → ObjectOk core objects o × PlaceOk core objects count a o.entity
  pub stream : class_at objects (own_address 0) ≡ Some 5

-- ---- messages

-- A message for actor i: a method of its entity and of this kind, with arguments of the types of its parameters.
pub record MessageOk (core : CoreData) (objects : ObjectMap) (i : ℕ) (k : MethodKind) (m : Message) : Type 0 where
  pub own : Method
  pub is_own : slice_get core.methods m.method ≡ Some own
  pub kind : own.kind ≡ k
  pub home : class_at objects (own_address i) ≡ Some own.entity
  pub arguments : ArgumentsOk core objects m.arguments own.params

-- Behaviours.
abbrev pub MailOk : CoreData → ObjectMap → ℕ → List Message → Type 0
MailOk core objects i [] = Unit {0}
MailOk core objects i (m ∷ ms) = MessageOk core objects i method.Be m × MailOk core objects i ms

-- The constructor, and then behaviours.
abbrev pub FirstMailOk : CoreData → ObjectMap → ℕ → List Message → Type 0
FirstMailOk core objects i [] = ⊥
FirstMailOk core objects i (m ∷ ms) = MessageOk core objects i method.Spawn m × MailOk core objects i ms

-- ---- actors and configurations

-- Actor i has not begun, or it goes on.
abbrev pub ActorOk : CoreData → Ann → ObjectMap → ℕ → Actor → Type 0
ActorOk core ann objects i a =
    ((a.frames ≡ []) × FirstMailOk core objects i a.mailbox) ⊎ (FramesOk core ann objects i a.frames × MailOk core objects i a.mailbox)

pub record WellTyped (core : CoreData) (ann : Ann) (c : Configuration) : Type 0 where
  pub objects : ObjectsOk core c.objects (length c.actors)
  pub actors : (i : ℕ) (a : Actor) → slice_get c.actors i ≡ Some a → ActorOk core ann c.objects i a
