-- When the entities that are noted at nodes are right: over every list of actors, the receiver of a call is of the
-- entity that is noted at the receiver's node.
-- ---- the call that comes next
use Rattle.std.specs.Prelude.{◌≡◌, ℕ, List, Option, Some, None, slice_get}
use Rattle.pc_heap.specs.{Objects.ObjectMap, declared.value.Value.Value}
use Rattle.pc_core.specs.{declared.nodes.NodeKind.NodeKind, CoreData.CoreData}
use Rattle.pc_base.specs.Lists.{◌>>=◌}
use Rattle.pc_semantics.specs.{declared.frames.Frame.Frame, declared.frames.Task.Task, Configurations.{Configuration, value_entity}, Step.{run_from, after}}
use Rattle.pc_sends.specs.Tables.{MayBe, last_child_of, noted_at, running}
use Rattle.pc_core.specs.declared.nodes.NodeKind.TheVariants as node
use Rattle.pc_semantics.specs.declared.frames.Task.TheVariants as task

abbrev pub invoked : Task → Option ℕ
invoked (task.Invoke n) = Some n
invoked t = None

abbrev pub receiver_child : NodeKind → List ℕ → Option ℕ
receiver_child (node.Call name) children = last_child_of children
receiver_child k children = None

-- The receiver's node and value, if the first of these tasks is a call. The value is on top of the stack.
abbrev pub call_in : CoreData → List Task → List Value → Option (ℕ × Value)
call_in core tasks stack = do
  t ← slice_get tasks 0
  n ← invoked t
  x ← slice_get core.nodes n
  r ← receiver_child x.kind x.children
  v ← slice_get stack 0
  Some (r, v)

abbrev pub call_held : CoreData → Frame → Option (ℕ × Value)
call_held core f = call_in core f.tasks f.stack

-- ---- Held

-- What is noted at node r holds of the value: its own entity is the noted one, or conforms to it.
pub record IsNoted (core : CoreData) (ents : List (Option ℕ)) (objects : ObjectMap) (r : ℕ) (v : Value) : Type 0 where
  pub noted : ℕ
  pub is_noted : noted_at ents r ≡ Some noted
  pub own : ℕ
  pub is_own : value_entity objects v ≡ Some own
  pub may_be : MayBe core own noted

-- This holds for each actor whose next task is a call.
abbrev pub HeldAt : CoreData → List (Option ℕ) → Configuration → Type 0
HeldAt core ents c =
    (i : ℕ) (f : Frame) (r : ℕ) (v : Value) → running c i ≡ Some f → call_held core f ≡ Some (r, v) → IsNoted core ents c.objects r v

-- It holds at every configuration that is reached from c.
abbrev pub HeldFrom : CoreData → List (Option ℕ) → Configuration → Type 0
HeldFrom core ents c = (list : List ℕ) → HeldAt core ents (run_from core c list)

-- It holds over every list of actors.
abbrev pub Held : CoreData → List (Option ℕ) → Type 0
Held core ents = (list : List ℕ) → HeldAt core ents (after core list)
