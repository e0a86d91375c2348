-- What a task's move may name: the object that it writes exists, a new object has the fields of its entity and, unless
-- an actor is made, the next address of its actor, and a message goes to an actor that exists.
use Rattle.std.proofs.{Common.{◌≡◌, ℕ, ◌-◌, ◌<◌, Bool, true, false, cond, List, [], ◌∷◌, ◌++◌, Option, Some, None, refl, sym, ap, subst}, lemmas.List.length-replicate}
use Rattle.std.specs.{Prelude.{nat_eq, nat_lt, ◌&&◌, is_some, IsSome, slice_get, length}, FinMap.get}
use borrow.Author.Tests.{ltb-true}
use Rattle.pc_tree.specs.declared.kinds.Op.{Op}
use Rattle.pc_tree.specs.declared.kinds.Op.TheVariants as op
use Rattle.pc_heap.specs.{Objects.{next_address, Object}, declared.value.Address.Address, declared.value.Value.Value, declared.value.Value.TheVariants.{Num, Truth, Text, Prim, At}}
use Rattle.pc_core.specs.{CoreData.{CoreData, field_named, method_named}, declared.declarations.Method.Method, declared.declarations.MethodKind.MethodKind, declared.kinds.Connective.Connective, declared.kinds.Operation.Operation, declared.nodes.Node.Node, declared.nodes.NodeKind.NodeKind, Kinds.{field_read, field_written, stored_slot, called_name, applied_operation, connective}}
use Rattle.pc_core.specs.declared.kinds.Connective.TheVariants as joins
use Rattle.pc_core.specs.declared.kinds.Operation.TheVariants as applies
use Rattle.pc_core.specs.declared.declarations.MethodKind.TheVariants as method
use Rattle.pc_core.specs.declared.nodes.NodeKind.TheVariants as node
use Rattle.pc_semantics.specs.{declared.frames.Frame.Frame, declared.frames.Task.Task, Configurations.{Around, Move, Goes, Writes, Makes, Spawns, Sends, Leaves, given, pop, popped, value_entity, blank_object}, Parts.{with_top, with_popped, number_of_fields, begin_new, make_of, spawn_of, enter, send, push_text, invoke_found, invoke_method, invoke_on, leave_object, return_task, get_value, get_field, get_of, get_from, put_value, put_field, put_of, put_into, push_slot, take_slot, evaluate_node, push_or_lack, negated, compared}, Calls.{counted, make_task, spawn_task, invoke_kind, text_of, is_string, invoke_task, leave, get_task, put_task, store, store_task}, Evaluation.{Way, Copies, Takes, FirstThen, way_of, first_then, by_way, truth, applied, apply_task, right_side, decided, test_task, branch, loop_turn, of_numbers, of_truths, of_texts, binary}, Step.task_move}
use Rattle.pc_semantics.specs.declared.frames.Task.TheVariants as task
use Rattle.pc_semantics.specs.declared.outcome.Lack.TheVariants as lack
use Rattle.pc_tasks.specs.{Fielded.HasFields, Inside.{first_move, relieved}}
use Rattle.pc_machine.specs.{declared.plan.Plan.Plan, Plans.{move_of, ReachesActor}}
use Rattle.pc_machine.specs.declared.plan.Plan.TheVariants as plan
use Rattle.pc_base.proofs.Bools.{second_true}

abbrev pub Allowed : CoreData → Around → Move → Type 0
Allowed core around (Writes at k v f) = IsSome (get around.objects at)
Allowed core around (Makes at o g f) = (at ≡ next_address around.objects around.actor) × HasFields core o
Allowed core around (Spawns o m f) = HasFields core o
Allowed core around (Sends j m f) = j < around.actors
Allowed core around m = Unit {0}

module _ (core : CoreData) (around : Around) where
  -- ---- what is popped

  top : (f : Frame) (vs : List Value) (next : Value → Frame → Move) → ((v : Value) (g : Frame) → Allowed core around (next v g)) → Allowed core around (with_top f vs next)
  top f [] next h = tt
  top f (v ∷ vs) next h = h v _

  arguments : (f : Frame) (o : Option (List Value × List Value)) (next : List Value → Frame → Move) → ((vs : List Value) (g : Frame) → Allowed core around (next vs g)) → Allowed core around (with_popped f o next)
  arguments f None next h = tt
  arguments f (Some p) next h = h p.0 _

  if_true : (b : Bool) (m n : Move) → (b ≡ true → Allowed core around m) → Allowed core around n → Allowed core around (cond b m n)
  if_true true m n h k = h refl
  if_true false m n h k = k

  at : {A : Type 0} (o : Option A) (next : A → Move) → ((x : A) → Allowed core around (next x)) → Allowed core around (given lack.Value o next)
  at None next h = tt
  at (Some x) next h = h x

  count : (x : Method) (vs : List Value) (m : Move) → Allowed core around m → Allowed core around (counted x vs m)
  count x vs m h = if_true (nat_eq (length vs) (length x.params)) m _ (λ e. h) tt

  -- ---- evaluation

  slot : (f : Frame) (o : Option (Option Value)) → Allowed core around (push_slot f o)
  slot f None = tt
  slot f (Some None) = tt
  slot f (Some (Some v)) = tt

  taken : (f : Frame) (s : ℕ) (o : Option (Option Value)) → Allowed core around (take_slot f s o)
  taken f s None = tt
  taken f s (Some None) = tt
  taken f s (Some (Some v)) = tt

  first : (f : Frame) (cs : List ℕ) (ts : List Task) → Allowed core around (first_then f cs ts)
  first f [] ts = tt
  first f (c ∷ cs) ts = tt

  way : (f : Frame) (cs : List ℕ) (w : Way) → Allowed core around (by_way f cs w)
  way f cs (Copies s) = slot f (slice_get f.slots s)
  way f cs (Takes s) = taken f s (slice_get f.slots s)
  way f cs (FirstThen ts) = first f cs ts
  way f cs w = tt

  evaluated : (f : Frame) (n : ℕ) (o : Option Node) → Allowed core around (evaluate_node f n o)
  evaluated f n None = tt
  evaluated f n (Some x) = way f x.children (way_of n x.kind)

  -- ---- fields

  value_read : (f : Frame) (o : Option (Option Value)) → Allowed core around (get_value f o)
  value_read f None = tt
  value_read f (Some None) = tt
  value_read f (Some (Some v)) = tt

  place_read : (f : Frame) (o : Object) (i : Option ℕ) → Allowed core around (get_field f o i)
  place_read f o None = tt
  place_read f o (Some i) = value_read f (slice_get o.fields i)

  object_read : (f : Frame) (name : ℕ) (o : Option Object) → Allowed core around (get_of core f name o)
  object_read f name None = tt
  object_read f name (Some o) = place_read f o (field_named core o.entity name)

  read : (name : ℕ) (v : Value) (f : Frame) → Allowed core around (get_from core around name v f)
  read name (At a) f = object_read f name (get around.objects a)
  read name (Num n) f = tt
  read name (Truth b) f = tt
  read name (Text t) f = tt
  read name (Prim e) f = tt

  value_put : (f : Frame) (a : Address) (i : ℕ) (v : Value) (o : Option (Option Value)) → IsSome (get around.objects a) → Allowed core around (put_value f a i v o)
  value_put f a i v None h = tt
  value_put f a i v (Some old) h = h

  field_put : (f : Frame) (a : Address) (o : Object) (v : Value) (i : Option ℕ) → IsSome (get around.objects a) → Allowed core around (put_field f a o v i)
  field_put f a o v None h = tt
  field_put f a o v (Some i) h = value_put f a i v (slice_get o.fields i) h

  object_put : (f : Frame) (name : ℕ) (a : Address) (v : Value) (o : Option Object) → get around.objects a ≡ o → Allowed core around (put_of core f name a v o)
  object_put f name a v None e = tt
  object_put f name a v (Some o) e = field_put f a o v (field_named core o.entity name) (ap is_some e)

  put : (name : ℕ) (o v : Value) (f : Frame) → Allowed core around (put_into core around name o v f)
  put name (At a) v f = object_put f name a v (get around.objects a) refl
  put name (Num n) v f = tt
  put name (Truth b) v f = tt
  put name (Text t) v f = tt
  put name (Prim e) v f = tt

  get_allowed : (f : Frame) (k : NodeKind) → Allowed core around (get_task core around f k)
  get_allowed f k = at (field_read k) _ (λ name. top f f.stack _ (read name))

  put_allowed : (f : Frame) (k : NodeKind) → Allowed core around (put_task core around f k)
  put_allowed f k = at (field_written k) _ (λ name. top f f.stack _ (λ o g. top g g.stack _ (put name o)))

  store_allowed : (f : Frame) (k : NodeKind) → Allowed core around (store_task f k)
  store_allowed f k = at (stored_slot k) _ (λ s. top f f.stack (store s) (λ v g. tt))

  -- ---- operators

  result : (f : Frame) (o : Option Value) → Allowed core around (push_or_lack f o)
  result f None = tt
  result f (Some v) = tt

  texts : (f : Frame) (o : Op) (a b : List ℕ) → Allowed core around (of_texts f o a b)
  texts f op.Add a b = if_true (nat_lt 4096 (length (a ++ b))) _ _ (λ e. tt) tt
  texts f op.Eq a b = tt
  texts f op.Ne a b = tt
  texts f o a b = tt

  operated : (f : Frame) (o : Op) (v w : Value) → Allowed core around (binary f o v w)
  operated f o (Num a) (Num b) = result f (of_numbers o a b)
  operated f o (Num a) w = tt
  operated f o (Truth a) (Truth b) = result f (of_truths o a b)
  operated f o (Truth a) w = tt
  operated f o (Text a) (Text b) = texts f o a b
  operated f o (Text a) w = tt
  operated f o v w = tt

  not_allowed : (f : Frame) (v : Value) → Allowed core around (negated f v)
  not_allowed f (Truth b) = tt
  not_allowed f v = tt

  operator : (f : Frame) (o : Operation) → Allowed core around (applied f o)
  operator f (applies.Binary o) = top f f.stack _ (λ w g. top g g.stack _ (λ v h. operated h o v w))
  operator f (applies.Same b) = top f f.stack (λ w g. pop g (λ v h. compared h b v w)) (λ w g. top g g.stack (λ v h. compared h b v w) (λ v h. tt))
  operator f applies.Not = top f f.stack _ (λ v g. not_allowed g v)

  apply_allowed : (f : Frame) (k : NodeKind) → Allowed core around (apply_task f k)
  apply_allowed f k = at (applied_operation k) _ (operator f)

  -- ---- choices

  told : (next : Bool → Frame → Move) → ((b : Bool) (f : Frame) → Allowed core around (next b f)) → (v : Value) (f : Frame) → Allowed core around (truth next v f)
  told next h (Truth b) f = h b f
  told next h (Num n) f = tt
  told next h (Text t) f = tt
  told next h (Prim e) f = tt
  told next h (At a) f = tt

  right : (f : Frame) (cs : List ℕ) → Allowed core around (right_side f cs)
  right f (a ∷ b ∷ []) = tt
  right f cs = tt

  decides : (o : Connective) (cs : List ℕ) (b : Bool) (f : Frame) → Allowed core around (decided o cs b f)
  decides joins.And cs false f = tt
  decides joins.And cs true f = right f cs
  decides joins.Or cs true f = tt
  decides joins.Or cs false f = right f cs

  test_allowed : (f : Frame) (cs : List ℕ) (k : NodeKind) → Allowed core around (test_task f cs k)
  test_allowed f cs k = at (connective k) _ (λ o. top f f.stack _ (told (decided o cs) (decides o cs)))

  branched : (cs : List ℕ) (b : Bool) (f : Frame) → Allowed core around (branch cs b f)
  branched (c ∷ a ∷ b ∷ []) true f = tt
  branched (c ∷ a ∷ b ∷ []) false f = tt
  branched cs b f = tt

  turned : (n : ℕ) (cs : List ℕ) (b : Bool) (f : Frame) → Allowed core around (loop_turn n cs b f)
  turned n (c ∷ a ∷ []) true f = tt
  turned n (c ∷ a ∷ []) false f = tt
  turned n cs b f = tt

  -- ---- constructors

  blank_fields : (e : ℕ) → HasFields core (blank_object core e)
  blank_fields e = length-replicate (number_of_fields (slice_get core.entities e)) None

  new_allowed : (m : ℕ) (x : Method) (vs : List Value) (f : Frame) (o : Option ℕ) → Allowed core around (begin_new core around m x vs f o)
  new_allowed m x vs f None = tt
  new_allowed m x vs f (Some body) = (refl, blank_fields x.entity)

  object_allowed : (m : ℕ) (vs : List Value) (f : Frame) (o : Option Method) → Allowed core around (make_of core around m vs f o)
  object_allowed m vs f None = tt
  object_allowed m vs f (Some x) = count x vs _ (new_allowed m x vs f x.body)

  make_allowed : (f : Frame) (cs : List ℕ) (k : NodeKind) → Allowed core around (make_task core around f cs k)
  make_allowed f cs (node.New m) = arguments f (popped (length cs) f.stack []) _ (λ vs g. object_allowed m vs g (slice_get core.methods m))
  make_allowed f cs k = tt

  actor_allowed : (m : ℕ) (vs : List Value) (f : Frame) (o : Option Method) → Allowed core around (spawn_of core around m vs f o)
  actor_allowed m vs f None = tt
  actor_allowed m vs f (Some x) = count x vs _ (blank_fields x.entity)

  spawn_allowed : (f : Frame) (cs : List ℕ) (k : NodeKind) → Allowed core around (spawn_task core around f cs k)
  spawn_allowed f cs (node.Spawn m) = arguments f (popped (length cs) f.stack []) _ (λ vs g. actor_allowed m vs g (slice_get core.methods m))
  spawn_allowed f cs k = tt

  -- ---- calls

  entered : (m : ℕ) (x : Method) (this : Value) (vs : List Value) (f : Frame) (o : Option ℕ) → Allowed core around (enter m x this vs f o)
  entered m x this vs f None = tt
  entered m x this vs f (Some body) = tt

  sent : (m : ℕ) (x : Method) (vs : List Value) (f : Frame) (v : Value) → Allowed core around (send around m x vs f v)
  sent m x vs f (At a) = if_true (nat_eq a.serial 0 && nat_lt a.maker around.actors) _ _ (λ e. count x vs _ (ltb-true a.maker around.actors (second_true _ _ e))) tt
  sent m x vs f (Num n) = tt
  sent m x vs f (Truth b) = tt
  sent m x vs f (Text t) = tt
  sent m x vs f (Prim e) = tt

  called : (m : ℕ) (x : Method) (this : Value) (vs : List Value) (f : Frame) (k : MethodKind) → Allowed core around (invoke_kind around m x this vs f k)
  called m x this vs f method.Fun = count x vs _ (entered m x this vs f x.body)
  called m x this vs f method.Be = sent m x vs f this
  called m x this vs f method.New = tt
  called m x this vs f method.Spawn = tt

  text_pushed : (f : Frame) (o : Option (List ℕ)) → Allowed core around (push_text f o)
  text_pushed f None = tt
  text_pushed f (Some t) = tt

  found : (m : ℕ) (this : Value) (vs : List Value) (f : Frame) (o : Option Method) → Allowed core around (invoke_found around m this vs f o)
  found m this vs f None = tt
  found m this vs f (Some x) = called m x this vs f x.kind

  named : (name : ℕ) (this : Value) (vs : List Value) (f : Frame) (o : Option ℕ) → Allowed core around (invoke_method core around name this vs f o)
  named name this vs f None = if_true (is_string core name vs) _ _ (λ e. text_pushed f (text_of this)) tt
  named name this vs f (Some m) = found m this vs f (slice_get core.methods m)

  on : (name : ℕ) (this : Value) (vs : List Value) (f : Frame) (o : Option ℕ) → Allowed core around (invoke_on core around name this vs f o)
  on name this vs f None = tt
  on name this vs f (Some e) = named name this vs f (method_named core e name)

  invoke_allowed : (f : Frame) (cs : List ℕ) (k : NodeKind) → Allowed core around (invoke_task core around f cs k)
  invoke_allowed f cs k =
      at (called_name k) _ (λ name. top f f.stack _ (λ this g. arguments g (popped (length cs - 1) g.stack []) _ (λ vs h. on name this vs h (value_entity around.objects this))))

  -- ---- the end of a method

  object_left : (o : Option (Option Value)) → Allowed core around (leave_object o)
  object_left None = tt
  object_left (Some None) = tt
  object_left (Some (Some v)) = tt

  left : (f : Frame) (k : MethodKind) → Allowed core around (leave f k)
  left f method.Fun = top f f.stack (λ v g. Leaves (Some v)) (λ v g. tt)
  left f method.New = object_left (slice_get f.slots 0)
  left f method.Be = tt
  left f method.Spawn = tt

  return_allowed : (f : Frame) (o : Option Method) → Allowed core around (return_task f o)
  return_allowed f None = tt
  return_allowed f (Some x) = left f x.kind

  -- ---- each task

  pub task_allowed : (f : Frame) (t : Task) → Allowed core around (task_move core around f t)
  task_allowed f (task.Eval n) = evaluated f n (slice_get core.nodes n)
  task_allowed f (task.Get n) = at (slice_get core.nodes n) _ (λ x. get_allowed f x.kind)
  task_allowed f (task.Put n) = at (slice_get core.nodes n) _ (λ x. put_allowed f x.kind)
  task_allowed f (task.Store n) = at (slice_get core.nodes n) _ (λ x. store_allowed f x.kind)
  task_allowed f (task.Make n) = at (slice_get core.nodes n) _ (λ x. make_allowed f x.children x.kind)
  task_allowed f (task.Spawn n) = at (slice_get core.nodes n) _ (λ x. spawn_allowed f x.children x.kind)
  task_allowed f (task.Invoke n) = at (slice_get core.nodes n) _ (λ x. invoke_allowed f x.children x.kind)
  task_allowed f (task.Apply n) = at (slice_get core.nodes n) _ (λ x. apply_allowed f x.kind)
  task_allowed f (task.Test n) = at (slice_get core.nodes n) _ (λ x. test_allowed f x.children x.kind)
  task_allowed f (task.Branch n) = at (slice_get core.nodes n) _ (λ x. top f f.stack _ (told (branch x.children) (branched x.children)))
  task_allowed f (task.Loop n) = at (slice_get core.nodes n) _ (λ x. top f f.stack _ (told (loop_turn n x.children) (turned n x.children)))
  task_allowed f task.Discard = top f f.stack (λ v g. Goes g) (λ v g. tt)
  task_allowed f task.Return = return_allowed f (slice_get core.methods f.method)

  pub first_allowed : (f : Frame) (o : Option Task) → Allowed core around (first_move core around f o)
  first_allowed f None = tt
  first_allowed f (Some t) = task_allowed (relieved f) t

-- A plan that is a task's move reaches no one but an actor.
pub reached : (core : CoreData) (around : Around) (f : Frame) (o : Option Task) (p : Plan) → move_of around p f ≡ first_move core around f o → ReachesActor p around.actors
reached core around f o (plan.Sends count receiver m) e = subst (Allowed core around) (sym e) (first_allowed core around f o)
reached core around f o (plan.Lacks l) e = tt
reached core around f o (plan.Changes ch) e = tt
reached core around f o (plan.Makes count entity fields g) e = tt
reached core around f o (plan.Spawns count entity fields m) e = tt
