-- What is known of a step before it is made.
use Rattle.std.specs.{Prelude.{ℕ, length, Option, Some, None, slice_get}, FinMap.len}
use Rattle.pc_core.specs.{CoreData.{CoreData, method_named}, declared.nodes.NodeKind.NodeKind}
use Rattle.pc_heap.specs.Objects.{ObjectMap, class_at}
use Rattle.pc_base.specs.Lists.{◌>>=◌}
use Rattle.pc_semantics.specs.{Ahead.ahead_of, Configurations.{Configuration, own_address}, Safety.access, declared.ahead.Ahead.Ahead, declared.frames.Task.Task}
use Rattle.pc_run_events.specs.{Events.method_waiting, declared.sight.Sight.Sight}
use Rattle.pc_core.specs.declared.nodes.NodeKind.TheVariants as node
use Rattle.pc_semantics.specs.declared.ahead.Ahead.TheVariants as ahead
use Rattle.pc_semantics.specs.declared.frames.Task.TheVariants as task

-- The next task of an actor that is not idle.
abbrev pub next_task : Configuration → (actor : ℕ) → Option Task
next_task c i = do
  a ← slice_get c.actors i
  f ← slice_get a.frames 0
  slice_get f.tasks 0

-- The node of a task that calls or sends a method, and the name that a node calls.
abbrev pub node_called : Task → Option ℕ
node_called (task.Invoke n) = Some n
node_called t = None

abbrev pub name_called : NodeKind → Option ℕ
name_called (node.Call name) = Some name
name_called k = None

-- The method of this receiver that a task calls or sends.
abbrev pub method_called : CoreData → ObjectMap → Task → (receiver : ℕ) → Option ℕ
method_called core objects t r = do
  n ← node_called t
  x ← slice_get core.nodes n
  name ← name_called x.kind
  e ← class_at objects (own_address r)
  method_named core e name

-- The method of the message that an actor's next task sends to this receiver.
abbrev pub method_sent : CoreData → Configuration → (actor receiver : ℕ) → Option ℕ
method_sent core c i r = do
  t ← next_task c i
  method_called core c.objects t r

-- The method of the message that a step of this kind takes or sends.
abbrev pub method_ahead : CoreData → Configuration → (actor : ℕ) → Ahead → Option ℕ
method_ahead core c i ahead.Take = method_waiting c i 0
method_ahead core c i (ahead.Send r) = method_sent core c i r
method_ahead core c i ahead.Spawn = None
method_ahead core c i ahead.Task = None
method_ahead core c i ahead.Skipped = None
method_ahead core c i ahead.Lacks = None
method_ahead core c i ahead.TooLong = None

abbrev pub sight : CoreData → Configuration → (actor : ℕ) → Sight
sight core c i = record {
  ahead = ahead_of core c i;
  actors = length c.actors;
  objects = len c.objects;
  access = access core c i;
  method = method_ahead core c i (ahead_of core c i);
}
