-- What a move of a running actor has to preserve, so that the configuration stays well typed when the move is made. A
-- move that lacks something preserves nothing.
use Rattle.std.specs.{Prelude.{◌≡◌, ◌≢◌, ℕ, ◌<◌, List, ◌∷◌, Some, slice_get}, FinMap.{get, insert}}
use Rattle.pc_heap.specs.{Objects.{ObjectMap, with_value, next_address, Object}, declared.value.Address.Address, declared.value.Value.Value}
use Rattle.pc_tree.specs.declared.kinds.EntityKind.TheVariants as kind
use Rattle.pc_core.specs.{declared.declarations.EntityDef.EntityDef, declared.declarations.FieldInfo.FieldInfo, CoreData.CoreData}
use Rattle.pc_core.specs.declared.declarations.MethodKind.TheVariants as method
use Rattle.pc_ann.specs.declared.annotation.Ann.{Ann}
use Rattle.pc_semantics.specs.{declared.frames.Frame.Frame, declared.mailbox.Message.Message, Configurations.{own_address, blank_object, Around, Move, Stuck, Overflows, Goes, Writes, Makes, Spawns, Enters, Sends, Leaves}, Step.left}
use Rattle.pc_types.proofs.{Types.OfType, Frames.{Held, WaitOk, FramesOk}, Typed.{field_type, ObjectsOk, MessageOk}}

-- A value of the field's type goes to a field of an object, and then the frames go on.
pub record WriteOk (core : CoreData) (ann : Ann) (objects : ObjectMap) (i : ℕ) (fs : List Frame) (a : Address) (k : ℕ) (v : Value) : Type 0 where
  pub object : Object
  pub stands : get objects a ≡ Some object
  pub entity : EntityDef
  pub is_entity : slice_get core.entities object.entity ≡ Some entity
  pub field : FieldInfo
  pub is_field : slice_get entity.fields k ≡ Some field
  pub fits : OfType core objects (field_type field) v
  pub frames : FramesOk core ann (with_value objects a k v) i fs

-- A new object of a class is at the next address of actor i.
pub record MakeOk (core : CoreData) (ann : Ann) (objects : ObjectMap) (i : ℕ) (fs : List Frame) (a : Address) (o : Object) : Type 0 where
  pub address : a ≡ next_address objects i
  pub number : ℕ
  pub blank : o ≡ blank_object core number
  pub entity : EntityDef
  pub is_entity : slice_get core.entities number ≡ Some entity
  pub class : entity.kind ≡ kind.Class
  pub frames : FramesOk core ann (insert objects a o) i fs

-- A new actor, which is not the stream, has its object and its constructor's message.
pub record SpawnOk (core : CoreData) (ann : Ann) (objects : ObjectMap) (i count : ℕ) (fs : List Frame) (o : Object) (m : Message) : Type 0 where
  pub number : ℕ
  pub blank : o ≡ blank_object core number
  pub entity : EntityDef
  pub is_entity : slice_get core.entities number ≡ Some entity
  pub actor : entity.kind ≡ kind.Actor
  pub other : number ≢ 5
  pub message : MessageOk core (insert objects (own_address count) o) count method.Spawn m
  pub frames : FramesOk core ann (insert objects (own_address count) o) i fs

abbrev pub MoveOk : CoreData → Ann → Around → List Frame → Move → Type 0
MoveOk core ann around fs (Stuck l) = ⊥
MoveOk core ann around fs Overflows = Unit {0}
MoveOk core ann around fs (Goes f) = FramesOk core ann around.objects around.actor (f ∷ fs)
MoveOk core ann around fs (Writes a k v f) = WriteOk core ann around.objects around.actor (f ∷ fs) a k v
MoveOk core ann around fs (Makes a o g f) = MakeOk core ann around.objects around.actor (g ∷ f ∷ fs) a o
MoveOk core ann around fs (Spawns o m f) = SpawnOk core ann around.objects around.actor around.actors (f ∷ fs) o m
MoveOk core ann around fs (Enters g f) = FramesOk core ann around.objects around.actor (g ∷ f ∷ fs)
MoveOk core ann around fs (Sends j m f) =
    (j < around.actors) × MessageOk core around.objects j method.Be m × FramesOk core ann around.objects around.actor (f ∷ fs)
MoveOk core ann around fs (Leaves v) = FramesOk core ann around.objects around.actor (left v fs)

-- What is around a running frame, and the frame itself but for its tasks.
pub record Runs (core : CoreData) (ann : Ann) (around : Around) (f : Frame) (fs : List Frame) : Type 0 where
  pub objects : ObjectsOk core around.objects around.actors
  pub here : around.actor < around.actors
  pub held : Held core ann around.objects f.method f.slots f.stack
  pub wait : WaitOk core ann around.objects around.actor f.method held.this fs
