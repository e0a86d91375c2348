-- When a program is safe: over every schedule no two actors race, waiting messages are let alone, and no step lacks
-- anything.
use Rattle.std.specs.Prelude.{◌≡◌, ◌≢◌, ◌⊎◌, ℕ, Bool, true, false, List, length, Option, Some, None, slice_get}
use Rattle.pc_heap.specs.{Objects.class_at, declared.value.Address.Address, declared.value.Value.Value}
use Rattle.pc_caps.specs.Tables.{sendable}
use Rattle.pc_core.specs.{CoreData.{field_named, CoreData}, declared.declarations.Method.Method, declared.declarations.ParamInfo.ParamInfo, Kinds.{field_read, field_written}}
use Rattle.pc_base.specs.Lists.{Each, ◌>>=◌}
use Rattle.pc_semantics.specs.{declared.access.Access.Access, declared.frames.Frame.Frame, declared.frames.Task.Task, declared.mailbox.Message.Message, declared.outcome.Lack.Lack, declared.outcome.Outcome.TheVariants.Lacks, Configurations.{Configuration, address_of, own_address}, Step.{step, after}}
use Rattle.pc_caps.specs.declared.capability.Cap.TheVariants as cap
use Rattle.pc_semantics.specs.declared.frames.Task.TheVariants as task

-- The name of the field that a task reads or writes, and whether it writes.
abbrev pub touched_name : CoreData → Task → Option (ℕ × Bool)
touched_name core (task.Get n) = do x ← slice_get core.nodes n; name ← field_read x.kind; Some (name, false)
touched_name core (task.Put n) = do x ← slice_get core.nodes n; name ← field_written x.kind; Some (name, true)
touched_name core t = None

-- The field of the object on top of the stack.
abbrev pub access_of : CoreData → Configuration → Frame → ℕ × Bool → Option Access
access_of core c f t = do
  v ← slice_get f.stack 0
  a ← address_of v
  e ← class_at c.objects a
  i ← field_named core e t.0
  Some (record { address = a; field = i; write = t.1 })

-- The field of an object that the next task of actor i reads or writes, if it does.
abbrev pub access : CoreData → Configuration → ℕ → Option Access
access core c i = do
  a ← slice_get c.actors i
  f ← slice_get a.frames 0
  t ← slice_get f.tasks 0
  touched ← touched_name core t
  access_of core c f touched

-- Two different actors are about to touch the same field of the same object, and one of them writes it.
pub record Race (core : CoreData) (c : Configuration) : Type 0 where
  pub i : ℕ
  pub j : ℕ
  pub differ : i ≢ j
  pub one : Access
  pub other : Access
  pub accesses : access core c i ≡ Some one
  pub accesses_too : access core c j ≡ Some other
  pub address : one.address ≡ other.address
  pub field : one.field ≡ other.field
  pub writes : (one.write ≡ true) ⊎ (other.write ≡ true)

-- No actor is about to touch the object, if the parameter is `iso`, or to write it, if the parameter is `val`.
pub record LetAlone (core : CoreData) (c : Configuration) (p : ParamInfo) (v : Value) : Type 0 where
  pub iso : p.cap ≡ cap.Iso → (a : Address) → address_of v ≡ Some a → (i : ℕ) (x : Access) → access core c i ≡ Some x → x.address ≢ a
  pub val : p.cap ≡ cap.Val → (a : Address) → address_of v ≡ Some a → (i : ℕ) (x : Access) → access core c i ≡ Some x → x.write ≡ true → x.address ≢ a

-- A message that waits for actor j: the actor has the method, with a sendable parameter for each argument, and what is
-- sent is let alone.
pub record QuietMessage (core : CoreData) (c : Configuration) (j : ℕ) (m : Message) : Type 0 where
  pub method : Method
  pub is_method : slice_get core.methods m.method ≡ Some method
  pub own : class_at c.objects (own_address j) ≡ Some method.entity
  pub count : length method.params ≡ length m.arguments
  pub sendable : Each (λ k p. sendable p.cap ≡ true) method.params
  pub arguments : (k : ℕ) (p : ParamInfo) (v : Value) → slice_get method.params k ≡ Some p → slice_get m.arguments k ≡ Some v → LetAlone core c p v

abbrev pub Quiet : CoreData → Configuration → Type 0
Quiet core c = Each (λ j a. Each (λ k m. QuietMessage core c j m) a.mailbox) c.actors

-- No actor's step lacks anything.
abbrev pub LacksNothing : CoreData → Configuration → Type 0
LacksNothing core c = (i : ℕ) (l : Lack) → (step core c i).0 ≢ Lacks l

-- What safety requires of the configuration after every list of actors, of any length.
pub record SafeAt (core : CoreData) (c : Configuration) : Type 0 where
  pub no_race : Race core c → ⊥
  pub quiet : Quiet core c
  pub lacks_nothing : LacksNothing core c

abbrev pub Safe : CoreData → Type 0
Safe core = (list : List ℕ) → SafeAt core (after core list)
