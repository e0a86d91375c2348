-- The state of the machine, and the configuration in which a program begins; what a task sees, and what it may do.
use Rattle.std.specs.{Prelude.{ℕ, zero, suc, ◌-◌, List, [], ◌∷◌, ◌++◌, map, length, drop, replicate, Option, Some, None, slice_get, slice_set, codes, position}, Str.bytes_eq, FinMap.{empty, get, insert}, Option.{option_flatten, option_map_or}}
use Rattle.pc_tree.specs.Kinds.{none_entity, u64_entity, bool_entity, string_entity, env_entity, out_stream_entity}
use Rattle.pc_heap.specs.{Objects.{ObjectMap, class_at, new_object, with_field, Object}, declared.value.Address.Address, declared.value.Value.Value, declared.value.Value.TheVariants.{Num, Truth, Text, Prim, At}}
use Rattle.pc_core.specs.{CoreData.{CoreData, method_named}, declared.declarations.EntityDef.EntityDef, declared.declarations.Method.Method}
use Rattle.pc_base.specs.Lists.{◌>>=◌}
use Rattle.pc_semantics.specs.{declared.actors.Actor.Actor, declared.frames.Frame.Frame, declared.frames.Task.Task, declared.mailbox.Message.Message, declared.outcome.Lack.Lack}
use Rattle.pc_semantics.specs.declared.frames.Task.TheVariants as task
use Rattle.pc_semantics.specs.declared.outcome.Lack.TheVariants as lack

-- The objects by their addresses, the actors in the order in which they were made, and the texts that were printed. The
-- number of objects that an actor has made is the number of addresses with that actor as maker.
pub record Configuration : Type 0 where
  pub objects : ObjectMap
  pub actors : List Actor
  pub printed : List (List ℕ)

abbrev pub with_actor : Configuration → ℕ → Actor → Configuration
with_actor c i a = record c { actors = slice_set c.actors i a }

-- The actor goes on with these frames.
abbrev pub with_frames : Configuration → ℕ → Actor → List Frame → Configuration
with_frames c i a frames = with_actor c i (record a { frames = frames })

-- ---- the start

-- The entity Main and its constructor `create`, by number.
abbrev pub main_create : CoreData → Option (ℕ × ℕ)
main_create core = do
  main ← position (bytes_eq (codes "Main")) (map (λ x. x.name) core.entities)
  name ← position (bytes_eq (codes "create")) core.names
  create ← method_named core main name
  Some (main, create)

-- An actor's own object is the first one that it is the maker of.
abbrev pub own_address : ℕ → Address
own_address i = record { maker = i; serial = 0 }

-- An object of an entity, without field values.
abbrev pub blank_object : CoreData → ℕ → Object
blank_object core e = new_object e (option_map_or (λ (x : EntityDef). length x.fields) (slice_get core.entities e) 0)

-- The environment, whose field `out` is actor 0.
abbrev pub environment : CoreData → Object
environment core = with_field (blank_object core env_entity) 0 (At (own_address 0))

abbrev pub environment_address : Address
environment_address = record { maker = 0; serial = 1 }

-- Actor 0 is the OutStream and actor 1 is Main, each with its object. Actor 0 has made the environment, and the message
-- that creates Main carries it.
abbrev pub start_of : CoreData → Option (ℕ × ℕ) → Configuration
start_of core None = record { objects = empty; actors = []; printed = [] }
start_of core (Some main) = record {
  objects = insert (insert (insert empty (own_address 0) (blank_object core out_stream_entity)) environment_address (environment core)) (own_address 1) (blank_object core main.0);
  actors =
      record { mailbox = []; frames = [] }
      ∷ record { mailbox = record { method = main.1; arguments = At environment_address ∷ [] } ∷ []; frames = [] } ∷ [];
  printed = [];
}

-- The configuration in which a core's program begins.
abbrev pub start : CoreData → Configuration
start core = start_of core (main_create core)

-- ---- what a task sees, and what it may do

-- What a task sees besides its frame: the objects, the number of its actor, and how many actors there are.
pub record Around : Type 0 where
  pub objects : ObjectMap
  pub actor : ℕ
  pub actors : ℕ

-- What a task does. The last frame in each case is the task's own frame, as it goes on.
pub data Move : Type 0 where
  -- it lacks something
  Stuck : Lack → Move
  -- it would make a text that is too long
  Overflows : Move
  Goes : Frame → Move
  -- a field of the object at an address gets a value
  Writes : Address → ℕ → Value → Frame → Move
  -- a new object, and its constructor's frame
  Makes : Address → Object → Frame → Frame → Move
  -- a new actor with its object and its first message
  Spawns : Object → Message → Frame → Move
  -- a function's frame
  Enters : Frame → Frame → Move
  -- a message for an actor
  Sends : ℕ → Message → Frame → Move
  -- the frame ends, and leaves a value or none to the frame below
  Leaves : Option Value → Move

-- The move that this value allows. If there is no value, the step lacks something.
abbrev pub given : {A : Type 0} → Lack → Option A → (A → Move) → Move
given l o next = option_map_or next o (Stuck l)

-- ---- frames

abbrev pub with_stack : Frame → List Value → Frame
with_stack f values = record f { stack = values }

abbrev pub pushed : Frame → Value → Frame
pushed f v = with_stack f (v ∷ f.stack)

abbrev pub with_slot : Frame → ℕ → Option Value → Frame
with_slot f s v = record f { slots = slice_set f.slots s v }

-- The value in a slot, if it holds one.
abbrev pub slot_value : Frame → ℕ → Option Value
slot_value f s = option_flatten (slice_get f.slots s)

abbrev pub with_tasks : Frame → List Task → Frame
with_tasks f ts = record f { tasks = ts }

-- The frame with these tasks before its own.
abbrev pub doing : Frame → List Task → Frame
doing f ts = with_tasks f (ts ++ f.tasks)

-- The frame of method m when it begins: its slots are `this`, the arguments, and empty ones, and its body is to be
-- evaluated.
abbrev pub first_frame : ℕ → Method → Value → List Value → ℕ → Frame
first_frame m x this arguments body = record {
  method = m;
  slots = Some this ∷ map Some arguments ++ replicate (x.slots - suc (length arguments)) None;
  stack = [];
  tasks = task.Eval body ∷ [];
}

-- The value is pushed. If there is none, the step lacks something.
abbrev pub push_value : Frame → Lack → Option Value → Move
push_value f l o = given l o λ v. Goes (pushed f v)

-- The task goes on with the top value, and with the frame without it.
abbrev pub pop : Frame → (Value → Frame → Move) → Move
pop f next = given lack.Value (slice_get f.stack 0) λ v. next v (with_stack f (drop 1 f.stack))

-- The values of this number of arguments, in the order in which they were pushed and before those that are given, and
-- the stack below them.
abbrev pub popped : ℕ → List Value → List Value → Option (List Value × List Value)
popped zero stack arguments = Some (arguments, stack)
popped (suc k) [] arguments = None
popped (suc k) (v ∷ stack) arguments = popped k stack (v ∷ arguments)

abbrev pub pop_arguments : Frame → ℕ → (List Value → Frame → Move) → Move
pop_arguments f k next = given lack.Value (popped k f.stack []) λ p. next p.0 (with_stack f p.1)

-- ---- values

-- None, the value of everything that has no other.
abbrev pub none : Value
none = Prim none_entity

-- A value's own entity.
abbrev pub value_entity : ObjectMap → Value → Option ℕ
value_entity objects (Num n) = Some u64_entity
value_entity objects (Truth b) = Some bool_entity
value_entity objects (Text t) = Some string_entity
value_entity objects (Prim e) = Some e
value_entity objects (At a) = class_at objects a

-- The address of the object that a value is.
abbrev pub address_of : Value → Option Address
address_of (At a) = Some a
address_of v = None

-- The task goes on with the object that a value is, and its address.
abbrev pub with_object : Around → Value → (Address → Object → Move) → Move
with_object around v next = given lack.Object (address_of v) λ a. given lack.Object (get around.objects a) (next a)
