-- When the frames of an actor can go on: the contents of their slots and stacks have the right types, their tasks can
-- be done, and each frame except the top waits for what the one above it leaves. An idle actor's object has all its
-- fields.
use Rattle.std.specs.{Prelude.{◌≡◌, ℕ, ◌+◌, ◌<◌, Bool, true, false, List, [], ◌∷◌, ◌++◌, length, Option, Some, slice_get}, FinMap.get}
use Rattle.pc_heap.specs.{Objects.{ObjectMap, Object}, declared.value.Value.Value, declared.value.Value.TheVariants.At}
use Rattle.pc_caps.specs.{Tables.plain, declared.capability.Cap.Cap}
use Rattle.pc_core.specs.{declared.declarations.Method.Method, declared.declarations.MethodKind.MethodKind, CoreData.CoreData}
use Rattle.pc_core.specs.declared.declarations.MethodKind.TheVariants as method
use Rattle.pc_masks.specs.{declared.mask.Mask.Mask, Masks.IsInMask}
use Rattle.pc_ann.specs.declared.annotation.Ann.{Ann}
use Rattle.pc_semantics.specs.{declared.frames.Frame.Frame, Configurations.{own_address, value_entity}}
use Rattle.pc_rules.specs.Parts.{constructs}
use Rattle.pc_valid.specs.Words.{Ty}
use Rattle.pc_types.proofs.{Types.{sees, Finished, OfKind, OfType, held_in, Lower, Want, wanted, StackOk}, Tasks.TasksOk}

-- ---- the object of a frame

-- The fields of this mask have values.
abbrev pub HasFields : ObjectMap → Mask → Value → Type 0
HasFields objects set (At a) = (o : Object) × (get objects a ≡ Some o) × ((i : ℕ) → IsInMask set i → (v : Value) × (slice_get o.fields i ≡ Some (Some v)))
HasFields objects set v = ⊥

-- `this` in a frame of method x: a value of the method's entity. In a constructor these fields have values, and otherwise all
-- have, unless the receiver is a `tag`.
pub record ThisOk (core : CoreData) (objects : ObjectMap) (x : Method) (set : Mask) (v : Value) : Type 0 where
  pub is_entity : value_entity objects v ≡ Some x.entity
  pub kind : OfKind core x.entity v
  pub finished : constructs x.kind ≡ false → sees (plain x.receiver) ≡ true → Finished objects v
  pub fields : constructs x.kind ≡ true → HasFields objects set v

-- ---- slots

-- Each live slot but that of `this` has a value of its type.
abbrev pub SlotsOk : CoreData → Ann → ObjectMap → Method → Mask → List (Option Value) → Type 0
SlotsOk core ann objects x live slots =
    (i : ℕ) → 0 < i → IsInMask live i
    → (v : Value) × (t : ℕ × Cap) × (slice_get slots i ≡ Some (Some v)) × (slice_get ann.slots (x.first_slot + i) ≡ Some t)
    × OfType core objects (held_in t) v

-- ---- frames

-- A frame but for its tasks.
pub record Held (core : CoreData) (ann : Ann) (objects : ObjectMap) (m : ℕ) (slots : List (Option Value)) (stack : List Value) : Type 0 where
  pub own : Method
  pub is_own : slice_get core.methods m ≡ Some own
  pub room : length slots ≡ own.slots
  pub this : Value
  pub is_this : slice_get slots 0 ≡ Some (Some this)
  pub live : Mask
  pub set : Mask
  pub this_ok : ThisOk core objects own set this
  pub slots_ok : SlotsOk core ann objects own live slots
  pub wants : List Want
  pub stack_ok : StackOk core objects this wants stack

-- A frame that goes on with these pushed.
abbrev pub FrameOk : CoreData → Ann → ObjectMap → List Want → Frame → Type 0
FrameOk core ann objects push f =
    (k : Held core ann objects f.method f.slots f.stack) × TasksOk core ann f.method f.tasks k.live k.set (push ++ k.wants)

-- A method of this kind leaves a value to the frame below.
abbrev pub leaves : MethodKind → Bool
leaves method.Fun = true
leaves method.New = true
leaves k = false

-- The last frame of actor i is that of a behaviour, and its object has all its fields, or it is that of its constructor.
abbrev pub LastOk : ObjectMap → ℕ → MethodKind → Value → Type 0
LastOk objects i method.Be this = Finished objects (At (own_address i))
LastOk objects i method.Spawn this = this ≡ At (own_address i)
LastOk objects i k this = ⊥

-- The frames below one of method m wait for what it leaves.
abbrev pub WaitOk : CoreData → Ann → ObjectMap → ℕ → ℕ → Value → List Frame → Type 0
WaitOk core ann objects i m this [] = (x : Method) × (slice_get core.methods m ≡ Some x) × LastOk objects i x.kind this
WaitOk core ann objects i m this (f ∷ fs) =
    (x : Method) × (slice_get core.methods m ≡ Some x) × (leaves x.kind ≡ true)
    × (goal : Option Ty) × Lower core (Some x.result) goal
    × (k : FrameOk core ann objects (wanted goal ∷ []) f) × WaitOk core ann objects i f.method k.0.this fs

abbrev pub FramesOk : CoreData → Ann → ObjectMap → ℕ → List Frame → Type 0
FramesOk core ann objects i [] = Finished objects (At (own_address i))
FramesOk core ann objects i (f ∷ fs) = (k : FrameOk core ann objects [] f) × WaitOk core ann objects i f.method k.0.this fs
