-- Tasks that stay inside a frame are the same, whichever actor does them.
use Rattle.std.proofs.Common.{◌≡◌, ℕ, List, [], ◌∷◌, Option, Some, None, refl}
use Rattle.std.specs.Prelude.{slice_get}
use Rattle.pc_heap.specs.{Objects.ObjectMap, declared.value.Value.Value}
use Rattle.pc_heap.specs.declared.value.Value.TheVariants as value
use Rattle.pc_core.specs.{CoreData.CoreData, declared.nodes.Node.Node, declared.nodes.NodeKind.NodeKind}
use Rattle.pc_core.specs.declared.nodes.NodeKind.TheVariants as node
use Rattle.pc_semantics.specs.{declared.frames.Frame.Frame, declared.frames.Task.Task, Configurations.{Move, with_stack, pop}, Parts.{with_top, get_from, put_into, at_node}, Calls.{get_task, put_task}}
use Rattle.pc_semantics.specs.declared.frames.Task.TheVariants as task
use Rattle.pc_tasks.specs.Inside.{IsInside, amid, seeing, first_move, relieved}

module _ (core : CoreData) (objects : ObjectMap) (i k : ℕ) where
  -- a task goes on in the same way with each value
  same_top : (f : Frame) (vs : List Value) (n m : Value → Frame → Move) → ((v : Value) (g : Frame) → n v g ≡ m v g) → with_top f vs n ≡ with_top f vs m
  same_top f [] n m same = refl
  same_top f (v ∷ vs) n m same = same v (with_stack f vs)

  same_node : (o : Option Node) (n m : Node → Move) → ((x : Node) → n x ≡ m x) → at_node o n ≡ at_node o m
  same_node None n m same = refl
  same_node (Some x) n m same = same x

  get_same : (name : ℕ) (v : Value) (f : Frame) → get_from core (amid objects i k) name v f ≡ get_from core (seeing objects) name v f
  get_same name (value.At a) f = refl
  get_same name v f = refl

  put_same : (name : ℕ) (o v : Value) (f : Frame) → put_into core (amid objects i k) name o v f ≡ put_into core (seeing objects) name o v f
  put_same name (value.At a) v f = refl
  put_same name o v f = refl

  get_kind : (f : Frame) (x : NodeKind) → get_task core (amid objects i k) f x ≡ get_task core (seeing objects) f x
  get_kind f (node.Field name) = same_top f f.stack (get_from core (amid objects i k) name) (get_from core (seeing objects) name) (get_same name)
  get_kind f x = refl

  put_kind : (f : Frame) (x : NodeKind) → put_task core (amid objects i k) f x ≡ put_task core (seeing objects) f x
  put_kind f (node.SetField name) = same_top f f.stack (λ o g. pop g (put_into core (amid objects i k) name o)) (λ o g. pop g (put_into core (seeing objects) name o)) (λ o g. same_top g g.stack (put_into core (amid objects i k) name o) (put_into core (seeing objects) name o) (put_same name o))
  put_kind f x = refl

  pub for_anyone : (f : Frame) (t : Option Task) → IsInside t → first_move core (amid objects i k) f t ≡ first_move core (seeing objects) f t
  for_anyone f None h = absurd h
  for_anyone f (Some (task.Get n)) h = same_node (slice_get core.nodes n) _ _ (λ x. get_kind (relieved f) x.kind)
  for_anyone f (Some (task.Put n)) h = same_node (slice_get core.nodes n) _ _ (λ x. put_kind (relieved f) x.kind)
  for_anyone f (Some (task.Make n)) h = absurd h
  for_anyone f (Some (task.Spawn n)) h = absurd h
  for_anyone f (Some (task.Invoke n)) h = absurd h
  for_anyone f (Some task.Return) h = absurd h
  for_anyone f (Some t) h = refl
