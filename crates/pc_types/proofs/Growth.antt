-- What is preserved when objects are added, and fields are set.
use Rattle.std.specs.{Prelude.{◌≡◌, ℕ, ◌<◌, List, [], ◌∷◌, length, Option, Some, None, slice_get, refl}, FinMap.get}
use Rattle.std.proofs.{Common.{inl, inr, ap, subst, ◌∙◌}, lemmas.Option.{same_Some, none-some}}
use Rattle.pc_heap.specs.{Objects.{ObjectMap, class_at, Object}, Parts.class_in, declared.value.Address.Address, declared.value.Value.Value, declared.value.Value.TheVariants.{Num, Truth, Text, Prim, At}}
use Rattle.pc_core.specs.{declared.declarations.Method.Method, declared.declarations.MethodKind.MethodKind, declared.declarations.ParamInfo.ParamInfo, CoreData.CoreData}
use Rattle.pc_core.specs.declared.declarations.MethodKind.TheVariants as method
use Rattle.pc_masks.specs.declared.mask.Mask.{Mask}
use Rattle.pc_ann.specs.declared.annotation.Ann.{Ann}
use Rattle.pc_semantics.specs.{declared.actors.Actor.Actor, declared.frames.Frame.Frame, declared.mailbox.Message.Message, Configurations.{own_address, value_entity}}
use Rattle.pc_valid.specs.Words.{Ty}
use Rattle.pc_types.proofs.{Types.{Finished, OfType, OfSome, ArgumentsOk, param_type, held_in, Want, wanted, StackOk}, Frames.{HasFields, ThisOk, SlotsOk, Held, FrameOk, LastOk, WaitOk, FramesOk}, Typed.{field_type, ObjectOk, MessageOk, MailOk, FirstMailOk, ActorOk}}

-- The object has kept its entity, and what was set is set.
pub record Grown (o p : Object) : Type 0 where
  pub entity : p.entity ≡ o.entity
  pub room : length p.fields ≡ length o.fields
  pub set : (i : ℕ) (v : Value) → slice_get o.fields i ≡ Some (Some v) → (w : Value) × (slice_get p.fields i ≡ Some (Some w))

-- Each object remains, and has grown.
pub record Extends (old new : ObjectMap) : Type 0 where
  pub each : (a : Address) (o : Object) → get old a ≡ Some o → (p : Object) × (get new a ≡ Some p) × Grown o p

pub grown_same : (o : Object) → Grown o o
grown_same o = record { entity = refl; room = refl; set = λ i v e. (v, e) }

-- An object's entity, and the object of an entity.
pub class_is : (objects : ObjectMap) (a : Address) (o : Object) → get objects a ≡ Some o → class_at objects a ≡ Some o.entity
class_is objects a o e = ap class_in e

class_of : (p : Option Object) (d : ℕ) → class_in p ≡ Some d → (o : Object) × (p ≡ Some o) × (o.entity ≡ d)
class_of None d e = absurd (none-some d e)
class_of (Some o) d e = (o, refl, same_Some o.entity d e)

pub object_of : (objects : ObjectMap) (a : Address) (d : ℕ) → class_at objects a ≡ Some d → (o : Object) × (get objects a ≡ Some o) × (o.entity ≡ d)
object_of objects a d e = class_of (get objects a) d e

module _ (old new : ObjectMap) (x : Extends old new) where
  pub class_kept : (a : Address) (d : ℕ) → class_at old a ≡ Some d → class_at new a ≡ Some d
  class_kept a d e =
      let o = object_of old a d e in
      let p = x.each a o.0 o.1 in
      class_is new a p.0 p.1 ∙ ap Some (p.2.entity ∙ o.2)

  pub entity_kept : (v : Value) (d : ℕ) → value_entity old v ≡ Some d → value_entity new v ≡ Some d
  entity_kept (Num n) d e = e
  entity_kept (Truth b) d e = e
  entity_kept (Text t) d e = e
  entity_kept (Prim p) d e = e
  entity_kept (At a) d e = class_kept a d e

  pub finished_kept : (v : Value) → Finished old v → Finished new v
  finished_kept (At a) k =
      let p = x.each a k.0 k.1 in
      (p.0, p.1, λ i l. let v = k.2 i (subst (λ (n : ℕ). i < n) p.2.room l) in p.2.set i v.0 v.1)
  finished_kept (Num n) k = tt
  finished_kept (Truth b) k = tt
  finished_kept (Text t) k = tt
  finished_kept (Prim p) k = tt

  pub fields_kept : (set : Mask) (v : Value) → HasFields old set v → HasFields new set v
  fields_kept set (At a) k = let p = x.each a k.0 k.1 in (p.0, p.1, λ i b. let v = k.2 i b in p.2.set i v.0 v.1)
  fields_kept set (Num n) k = k
  fields_kept set (Truth b) k = k
  fields_kept set (Text t) k = k
  fields_kept set (Prim p) k = k

  module _ (core : CoreData) where
    pub of_kept : (t : Ty) (v : Value) → OfType core old t v → OfType core new t v
    of_kept t v k = record { entity = k.entity; is_entity = entity_kept v k.entity k.is_entity; below = k.below; kind = k.kind; finished = λ h. finished_kept v (k.finished h) }

    pub some_kept : (t : Option Ty) (v : Value) → OfSome core old t v → OfSome core new t v
    some_kept None v k = tt
    some_kept (Some t) v k = of_kept t v k

    pub arguments_kept : (vs : List Value) (ps : List ParamInfo) → ArgumentsOk core old vs ps → ArgumentsOk core new vs ps
    arguments_kept [] [] k = k
    arguments_kept [] (p ∷ ps) k = k
    arguments_kept (v ∷ vs) [] k = k
    arguments_kept (v ∷ vs) (p ∷ ps) k = (of_kept (param_type p) v k.0, arguments_kept vs ps k.1)

    pub stack_kept : (this : Value) (ws : List Want) (vs : List Value) → StackOk core old this ws vs → StackOk core new this ws vs
    stack_kept this [] [] k = k
    stack_kept this [] (v ∷ vs) k = k
    stack_kept this (w ∷ ws) [] k = k
    stack_kept this (w ∷ ws) (v ∷ vs) k = ((some_kept w.ty v k.0.0, k.0.1), stack_kept this ws vs k.1)

    pub this_kept : (f : Method) (set : Mask) (v : Value) → ThisOk core old f set v → ThisOk core new f set v
    this_kept f set v k = record {
      is_entity = entity_kept v f.entity k.is_entity;
      kind = k.kind;
      finished = λ h l. finished_kept v (k.finished h l);
      fields = λ h. fields_kept set v (k.fields h);
    }

    module _ (ann : Ann) where
      pub slots_kept : (f : Method) (live : Mask) (slots : List (Option Value)) → SlotsOk core ann old f live slots → SlotsOk core ann new f live slots
      slots_kept f live slots k i l b = let y = k i l b in (y.0, y.1, y.2, y.3, of_kept (held_in y.1) y.0 y.4)

      abbrev pub held_kept : (m : ℕ) (slots : List (Option Value)) (stack : List Value) → Held core ann old m slots stack → Held core ann new m slots stack
      held_kept m slots stack k = record {
        own = k.own;
        is_own = k.is_own;
        room = k.room;
        this = k.this;
        is_this = k.is_this;
        live = k.live;
        set = k.set;
        this_ok = this_kept k.own k.set k.this k.this_ok;
        slots_ok = slots_kept k.own k.live slots k.slots_ok;
        wants = k.wants;
        stack_ok = stack_kept k.this k.wants stack k.stack_ok;
      }

      abbrev pub frame_kept : (push : List Want) (f : Frame) → FrameOk core ann old push f → FrameOk core ann new push f
      frame_kept push f k = (held_kept f.method f.slots f.stack k.0, k.1)

      last_kept : (i : ℕ) (k : MethodKind) (this : Value) → LastOk old i k this → LastOk new i k this
      last_kept i method.Be this l = finished_kept (At (own_address i)) l
      last_kept i method.Spawn this l = l
      last_kept i method.Fun this l = l
      last_kept i method.New this l = l

      pub wait_kept : (i m : ℕ) (this : Value) (fs : List Frame) → WaitOk core ann old i m this fs → WaitOk core ann new i m this fs
      wait_kept i m this [] w = (w.0, w.1, last_kept i w.0.kind this w.2)
      wait_kept i m this (f ∷ fs) w = (w.0, w.1, w.2, w.3, w.4, frame_kept (wanted w.3 ∷ []) f w.5, wait_kept i f.method w.5.0.this fs w.6)

      pub frames_kept : (i : ℕ) (fs : List Frame) → FramesOk core ann old i fs → FramesOk core ann new i fs
      frames_kept i [] k = finished_kept (At (own_address i)) k
      frames_kept i (f ∷ fs) k = (frame_kept [] f k.0, wait_kept i f.method k.0.0.this fs k.1)

    pub message_kept : (i : ℕ) (k : MethodKind) (m : Message) → MessageOk core old i k m → MessageOk core new i k m
    message_kept i k m x2 = record { own = x2.own; is_own = x2.is_own; kind = x2.kind; home = class_kept (own_address i) x2.own.entity x2.home; arguments = arguments_kept m.arguments x2.own.params x2.arguments }

    pub mail_kept : (i : ℕ) (ms : List Message) → MailOk core old i ms → MailOk core new i ms
    mail_kept i [] k = k
    mail_kept i (m ∷ ms) k = (message_kept i method.Be m k.0, mail_kept i ms k.1)

    pub first_kept : (i : ℕ) (ms : List Message) → FirstMailOk core old i ms → FirstMailOk core new i ms
    first_kept i [] k = k
    first_kept i (m ∷ ms) k = (message_kept i method.Spawn m k.0, mail_kept i ms k.1)

    pub actor_kept : (ann : Ann) (i : ℕ) (a : Actor) → ActorOk core ann old i a → ActorOk core ann new i a
    actor_kept ann i a (inl k) = inl (k.0, first_kept i a.mailbox k.1)
    actor_kept ann i a (inr k) = inr (frames_kept ann i a.frames k.0, mail_kept i a.mailbox k.1)

    pub object_kept : (o : Object) → ObjectOk core old o → ObjectOk core new o
    object_kept o k = record { entity = k.entity; is_entity = k.is_entity; placed = k.placed; room = k.room; fields = λ i f v d e. of_kept (field_type f) v (k.fields i f v d e) }
