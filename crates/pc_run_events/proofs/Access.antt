-- A step that reads or writes a field takes no message, sends none, and makes no actor and no object.
use Rattle.std.specs.{Prelude.{◌≡◌, ℕ, Bool, List, [], ◌∷◌, Option, Some, None, slice_get, refl}, FinMap.get}
use Rattle.std.proofs.lemmas.Option.{none-some}
use Rattle.pc_core.specs.{CoreData.{CoreData, field_named}, declared.nodes.Node.Node, declared.nodes.NodeKind.NodeKind}
use Rattle.pc_core.specs.declared.nodes.NodeKind.TheVariants as node
use Rattle.pc_heap.specs.{Objects.Object, declared.value.Address.Address, declared.value.Value.Value}
use Rattle.pc_heap.specs.declared.value.Value.TheVariants as value
use Rattle.pc_base.specs.Lists.{◌>>=◌}
use Rattle.pc_semantics.specs.{Ahead.{ahead_of, by_move, of_frames}, Parts.{of_actor, of_tasks, with_top, get_field, get_from, get_of, get_value, put_field, put_into, put_of, put_value, at_node}, Configurations.{Around, Move, Stuck, Overflows, Goes, Writes, Makes, Spawns, Enters, Sends, Leaves, pop, with_stack, with_tasks, Configuration}, Calls.{get_task, put_task}, Safety.{access, access_of, touched_name}, Step.{around, task_move}, declared.access.Access.Access, declared.actors.Actor.Actor, declared.ahead.Ahead.Ahead, declared.frames.Frame.Frame, declared.frames.Task.Task}
use Rattle.pc_semantics.specs.declared.ahead.Ahead.TheVariants as ahead
use Rattle.pc_semantics.specs.declared.frames.Task.TheVariants as task

-- Nothing of a mailbox, and no new actor.
abbrev pub IsTask : Ahead → Type 0
IsTask ahead.Take = ⊥
IsTask (ahead.Send r) = ⊥
IsTask ahead.Spawn = ⊥
IsTask ahead.Task = Unit {0}
IsTask ahead.Skipped = Unit {0}
IsTask ahead.Lacks = Unit {0}
IsTask ahead.TooLong = Unit {0}

-- It goes on, with a field written or not, or it does not move.
abbrev pub Plain : Move → Type 0
Plain (Stuck l) = Unit {0}
Plain Overflows = Unit {0}
Plain (Goes f) = Unit {0}
Plain (Writes a k v f) = Unit {0}
Plain (Makes a o g f) = ⊥
Plain (Spawns o m f) = ⊥
Plain (Enters g f) = ⊥
Plain (Sends j m f) = ⊥
Plain (Leaves v) = ⊥

plain_task : (m : Move) → Plain m → IsTask (by_move m)
plain_task (Stuck l) p = tt
plain_task Overflows p = tt
plain_task (Goes f) p = tt
plain_task (Writes a k v f) p = tt
plain_task (Makes a o g f) p = absurd p
plain_task (Spawns o m f) p = absurd p
plain_task (Enters g f) p = absurd p
plain_task (Sends j m f) p = absurd p
plain_task (Leaves v) p = absurd p

top_plain : (f : Frame) (vs : List Value) (next : Value → Frame → Move) → ((v : Value) (g : Frame) → Plain (next v g)) → Plain (with_top f vs next)
top_plain f [] next h = tt
top_plain f (v ∷ below) next h = h v (with_stack f below)

-- ---- Get

value_plain : (f : Frame) (o : Option (Option Value)) → Plain (get_value f o)
value_plain f None = tt
value_plain f (Some None) = tt
value_plain f (Some (Some v)) = tt

field_plain : (f : Frame) (o : Object) (i : Option ℕ) → Plain (get_field f o i)
field_plain f o None = tt
field_plain f o (Some i) = value_plain f (slice_get o.fields i)

of_plain : (core : CoreData) (f : Frame) (name : ℕ) (o : Option Object) → Plain (get_of core f name o)
of_plain core f name None = tt
of_plain core f name (Some o) = field_plain f o (field_named core o.entity name)

from_plain : (core : CoreData) (a : Around) (name : ℕ) (v : Value) (f : Frame) → Plain (get_from core a name v f)
from_plain core a name (value.Num n) f = tt
from_plain core a name (value.Truth b) f = tt
from_plain core a name (value.Text t) f = tt
from_plain core a name (value.Prim e) f = tt
from_plain core a name (value.At at) f = of_plain core f name (get a.objects at)

get_plain : (core : CoreData) (a : Around) (f : Frame) (k : NodeKind) → Plain (get_task core a f k)
get_plain core a f (node.Field name) = top_plain f f.stack (get_from core a name) (λ v g. from_plain core a name v g)
get_plain core a f k = tt

pub get_node : (core : CoreData) (a : Around) (f : Frame) (o : Option Node) → Plain (at_node o (λ x. get_task core a f x.kind))
get_node core a f None = tt
get_node core a f (Some x) = get_plain core a f x.kind

-- ---- Put

put_value_plain : (f : Frame) (a : Address) (i : ℕ) (v : Value) (o : Option (Option Value)) → Plain (put_value f a i v o)
put_value_plain f a i v None = tt
put_value_plain f a i v (Some old) = tt

put_field_plain : (f : Frame) (a : Address) (o : Object) (v : Value) (i : Option ℕ) → Plain (put_field f a o v i)
put_field_plain f a o v None = tt
put_field_plain f a o v (Some i) = put_value_plain f a i v (slice_get o.fields i)

put_of_plain : (core : CoreData) (f : Frame) (name : ℕ) (a : Address) (v : Value) (o : Option Object) → Plain (put_of core f name a v o)
put_of_plain core f name a v None = tt
put_of_plain core f name a v (Some o) = put_field_plain f a o v (field_named core o.entity name)

into_plain : (core : CoreData) (a : Around) (name : ℕ) (o v : Value) (f : Frame) → Plain (put_into core a name o v f)
into_plain core a name (value.Num n) v f = tt
into_plain core a name (value.Truth b) v f = tt
into_plain core a name (value.Text t) v f = tt
into_plain core a name (value.Prim e) v f = tt
into_plain core a name (value.At at) v f = put_of_plain core f name at v (get a.objects at)

put_plain : (core : CoreData) (a : Around) (f : Frame) (k : NodeKind) → Plain (put_task core a f k)
put_plain core a f (node.SetField name) =
    top_plain f f.stack (λ o g. pop g (put_into core a name o)) (λ o g. top_plain g g.stack (put_into core a name o) (λ v h. into_plain core a name o v h))
put_plain core a f k = tt

pub put_node : (core : CoreData) (a : Around) (f : Frame) (o : Option Node) → Plain (at_node o (λ x. put_task core a f x.kind))
put_node core a f None = tt
put_node core a f (Some x) = put_plain core a f x.kind

-- ---- every task

task_plain : (core : CoreData) (a : Around) (f : Frame) (t : Task) (n : ℕ × Bool) → touched_name core t ≡ Some n → Plain (task_move core a f t)
task_plain core a f (task.Get k) n e = get_node core a f (slice_get core.nodes k)
task_plain core a f (task.Put k) n e = put_node core a f (slice_get core.nodes k)
task_plain core a f t n e = absurd (none-some n e)

module _ (core : CoreData) (c : Configuration) (i : ℕ) (x : Access) where
  by_name : (f : Frame) (t : Task) (ts : List Task) (o : Option (ℕ × Bool)) → touched_name core t ≡ o → (o >>= (λ n. access_of core c f n)) ≡ Some x → Plain (task_move core (around c i) (with_tasks f ts) t)
  by_name f t ts None is e = absurd (none-some x e)
  by_name f t ts (Some n) is e = task_plain core (around c i) (with_tasks f ts) t n is

  by_tasks : (f : Frame) (ts : List Task) → (slice_get ts 0 >>= (λ t. touched_name core t >>= (λ n. access_of core c f n))) ≡ Some x → IsTask (of_tasks core (around c i) f ts)
  by_tasks f [] e = absurd (none-some x e)
  by_tasks f (t ∷ ts) e = plain_task _ (by_name f t ts (touched_name core t) refl e)

  by_frames : (a : Actor) (fs : List Frame) → (slice_get fs 0 >>= (λ f. slice_get f.tasks 0 >>= (λ t. touched_name core t >>= (λ n. access_of core c f n)))) ≡ Some x → IsTask (of_frames core c i a fs)
  by_frames a [] e = absurd (none-some x e)
  by_frames a (f ∷ fs) e = by_tasks f f.tasks e

  by_actor : (o : Option Actor) → (o >>= (λ a. slice_get a.frames 0 >>= (λ f. slice_get f.tasks 0 >>= (λ t. touched_name core t >>= (λ n. access_of core c f n))))) ≡ Some x → IsTask (of_actor core c i o)
  by_actor None e = absurd (none-some x e)
  by_actor (Some a) e = by_frames a a.frames e

  pub access_is_task : access core c i ≡ Some x → IsTask (ahead_of core c i)
  access_is_task e = by_actor (slice_get c.actors i) e
