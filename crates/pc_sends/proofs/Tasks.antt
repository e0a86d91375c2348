-- Each task keeps its frame's method, and what it makes, begins or sends is what its node names.
use Rattle.std.specs.{Prelude.{◌≡◌, ℕ, ◌-◌, ◌<◌, ◌≤◌, Bool, true, false, ◌&&◌, List, [], ◌∷◌, ◌++◌, length, Option, Some, None, nat_eq, nat_lt, slice_get, refl}, FinMap.get}
use Rattle.std.proofs.Common.{ap, sym, subst, ◌∙◌, arith}
use Rattle.pc_base.proofs.{Gets.get_within, Options.bind_is}
use Rattle.pc_heap.specs.{Objects.{ObjectMap, Object}, declared.value.Address.Address, declared.value.Value.Value, declared.value.Value.TheVariants.{Num, Truth, Text, Prim, At}}
use Rattle.pc_tree.specs.declared.kinds.Op.{Op}
use Rattle.pc_tree.specs.declared.kinds.Op.TheVariants as op
use Rattle.pc_core.specs.{declared.declarations.Method.Method, declared.declarations.MethodKind.MethodKind, declared.kinds.Connective.Connective, declared.kinds.Operation.Operation, declared.nodes.Node.Node, declared.nodes.NodeKind.NodeKind, CoreData.{CoreData, method_named}, Kinds.{field_read, field_written, stored_slot, applied_operation, connective}, Nodes.HasArity, Formed.Formed}
use Rattle.pc_core.specs.declared.declarations.MethodKind.TheVariants as method
use Rattle.pc_core.specs.declared.kinds.Connective.TheVariants as joins
use Rattle.pc_core.specs.declared.kinds.Operation.TheVariants as applies
use Rattle.pc_core.specs.declared.nodes.NodeKind.TheVariants as node
use Rattle.pc_base.specs.{Lists.Each, Limits.text_limit}
use Rattle.pc_semantics.specs.{declared.frames.Frame.Frame, declared.frames.Task.Task, declared.mailbox.Message.Message, Configurations.{own_address, blank_object, Around, Move, Stuck, Overflows, Goes, Spawns, Sends, Leaves, given, with_stack, pushed, none, popped}, Children.evaluations, Parts.{push_slot, take_slot, evaluate_node, get_value, get_field, get_of, get_from, put_value, put_field, put_of, put_into, begin_new, make_of, spawn_of, enter, send, push_text, invoke_found, invoke_method, invoke_on, leave_object, return_task, push_or_lack, negated, compared, at_node}, Evaluation.{Way, Gives, Copies, Takes, AllThen, FirstThen, Items, way_of, item_tasks, first_then, by_way, truth, applied, apply_task, right_side, decided, test_task, branch, loop_turn, of_numbers, of_truths, of_texts, binary}, Calls.{get_task, put_task, store, store_task, counted, is_string, text_of, make_task, spawn_task, invoke_kind, invoke_task, leave}, Step.task_move}
use Rattle.pc_semantics.specs.declared.frames.Task.TheVariants as task
use Rattle.pc_semantics.specs.declared.outcome.Lack.TheVariants as lack
use Rattle.pc_sends.specs.{Held.{receiver_child, call_in, IsNoted}, Tables.{is_called, last_child_of, noted_at, Aims, UsesMethod, IsSent, Posts}}
use Rattle.pc_sends.proofs.{Homes.{NodeIn, children_in, body_in}, Moves.{TaskIn, TasksIn, FrameOf, MoveIn, tasks_in, evaluations_in, items_in, cond_in, top_in, popped_in}}

-- What is called is as it is noted.
abbrev pub CallNoted : CoreData → List (Option ℕ) → ObjectMap → List Task → List Value → Type 0
CallNoted core ents objects tasks stack = (r : ℕ) (v : Value) → call_in core tasks stack ≡ Some (r, v) → IsNoted core ents objects r v

module _ (core : CoreData) (ents : List (Option ℕ)) (formed : Formed core) (m : ℕ) where
  abbrev Of : Frame → Type 0
  Of f = FrameOf core m f

  abbrev In : Move → Type 0
  In move = MoveIn core ents m move

  -- ---- evaluation

  push_slot_in : (f : Frame) (o : Option (Option Value)) → Of f → In (push_slot f o)
  push_slot_in f None k = tt
  push_slot_in f (Some None) k = tt
  push_slot_in f (Some (Some v)) k = k

  take_slot_in : (f : Frame) (s : ℕ) (o : Option (Option Value)) → Of f → In (take_slot f s o)
  take_slot_in f s None k = tt
  take_slot_in f s (Some None) k = tt
  take_slot_in f s (Some (Some v)) k = k

  -- All children, and then this task.
  all_in : (f : Frame) (cs : List ℕ) (t : Task) → Of f → Each (λ i c. NodeIn core m c) cs → TaskIn core m t → TasksIn core m ((evaluations cs ++ t ∷ []) ++ f.tasks)
  all_in f cs t k h l = tasks_in core m (evaluations cs ++ t ∷ []) f.tasks (tasks_in core m (evaluations cs) (t ∷ []) (evaluations_in core m cs h) (l, tt)) k.1

  -- The first child, and then these tasks.
  first_in : (f : Frame) (cs : List ℕ) (ts : List Task) → Of f → Each (λ i c. NodeIn core m c) cs → TasksIn core m ts → In (first_then f cs ts)
  first_in f [] ts k h l = tt
  first_in f (c ∷ cs) ts k h l = (k.0, (h 0 c refl, tasks_in core m ts f.tasks l k.1))

  -- The tasks of a way are tasks of node n.
  abbrev WayIn : ℕ → Way → Type 0
  WayIn n (AllThen t) = TaskIn core m t
  WayIn n (FirstThen ts) = TasksIn core m ts
  WayIn n w = NodeIn core m n

  own_way : (n : ℕ) (x : NodeKind) → NodeIn core m n → WayIn n (way_of n x)
  own_way n node.And l = (l, tt)
  own_way n node.Or l = (l, tt)
  own_way n node.If l = (l, tt)
  own_way n node.While l = (l, tt)
  own_way n (node.Recover c) l = tt
  own_way n node.Body l = (tt, tt)
  own_way n x l = l

  way_in : (f : Frame) (n : ℕ) (cs : List ℕ) (w : Way) → Of f → Each (λ i c. NodeIn core m c) cs → WayIn n w → In (by_way f cs w)
  way_in f n cs (Gives v) k h l = k
  way_in f n cs (Copies s) k h l = push_slot_in f (slice_get f.slots s) k
  way_in f n cs (Takes s) k h l = take_slot_in f s (slice_get f.slots s) k
  way_in f n cs (AllThen t) k h l = (k.0, all_in f cs t k h l)
  way_in f n cs (FirstThen ts) k h l = first_in f cs ts k h l
  way_in f n cs Items k h l = (k.0, tasks_in core m (item_tasks cs) f.tasks (items_in core m cs h) k.1)

  -- The step goes on with a value that is there.
  given_in : {A : Type 0} (o : Option A) (next : A → Move) → ((x : A) → In (next x)) → In (given lack.Value o next)
  given_in None next h = tt
  given_in (Some x) next h = h x

  -- ---- fields and slots

  get_value_in : (f : Frame) (o : Option (Option Value)) → Of f → In (get_value f o)
  get_value_in f None k = tt
  get_value_in f (Some None) k = tt
  get_value_in f (Some (Some v)) k = k

  get_field_in : (f : Frame) (o : Object) (i : Option ℕ) → Of f → In (get_field f o i)
  get_field_in f o None k = tt
  get_field_in f o (Some i) k = get_value_in f (slice_get o.fields i) k

  get_of_in : (f : Frame) (name : ℕ) (o : Option Object) → Of f → In (get_of core f name o)
  get_of_in f name None k = tt
  get_of_in f name (Some o) k = get_field_in f o _ k

  get_from_in : (around : Around) (name : ℕ) (v : Value) (f : Frame) → Of f → In (get_from core around name v f)
  get_from_in around name (At a) f k = get_of_in f name (get around.objects a) k
  get_from_in around name (Num n) f k = tt
  get_from_in around name (Truth n) f k = tt
  get_from_in around name (Text n) f k = tt
  get_from_in around name (Prim n) f k = tt

  put_value_in : (f : Frame) (a : Address) (i : ℕ) (v : Value) (o : Option (Option Value)) → Of f → In (put_value f a i v o)
  put_value_in f a i v None k = tt
  put_value_in f a i v (Some old) k = k

  put_field_in : (f : Frame) (a : Address) (o : Object) (v : Value) (i : Option ℕ) → Of f → In (put_field f a o v i)
  put_field_in f a o v None k = tt
  put_field_in f a o v (Some i) k = put_value_in f a i v (slice_get o.fields i) k

  put_of_in : (f : Frame) (name : ℕ) (a : Address) (v : Value) (o : Option Object) → Of f → In (put_of core f name a v o)
  put_of_in f name a v None k = tt
  put_of_in f name a v (Some o) k = put_field_in f a o v _ k

  put_into_in : (around : Around) (name : ℕ) (o v : Value) (f : Frame) → Of f → In (put_into core around name o v f)
  put_into_in around name (At a) v f k = put_of_in f name a v (get around.objects a) k
  put_into_in around name (Num n) v f k = tt
  put_into_in around name (Truth n) v f k = tt
  put_into_in around name (Text n) v f k = tt
  put_into_in around name (Prim n) v f k = tt

  get_task_in : (around : Around) (f : Frame) (x : NodeKind) → Of f → In (get_task core around f x)
  get_task_in around f x k = given_in (field_read x) _ (λ name. top_in core ents m f f.stack (get_from core around name) k (get_from_in around name))

  put_task_in : (around : Around) (f : Frame) (x : NodeKind) → Of f → In (put_task core around f x)
  put_task_in around f x k =
      given_in (field_written x) _ (λ name. top_in core ents m f f.stack _ k (λ o g l. top_in core ents m g g.stack (put_into core around name o) l (put_into_in around name o)))

  store_task_in : (f : Frame) (x : NodeKind) → Of f → In (store_task f x)
  store_task_in f x k = given_in (stored_slot x) _ (λ s. top_in core ents m f f.stack (store s) k (λ v g l. l))

  -- ---- operators

  gives_in : (f : Frame) (o : Option Value) → Of f → In (push_or_lack f o)
  gives_in f None k = tt
  gives_in f (Some v) k = k

  of_texts_in : (f : Frame) (o : Op) (a b : List ℕ) → Of f → In (of_texts f o a b)
  of_texts_in f op.Add a b k = cond_in core ents m (nat_lt text_limit (length (a ++ b))) Overflows (Goes (pushed f (Text (a ++ b)))) tt k
  of_texts_in f op.Eq a b k = k
  of_texts_in f op.Ne a b k = k
  of_texts_in f o a b k = tt

  binary_in : (f : Frame) (o : Op) (v w : Value) → Of f → In (binary f o v w)
  binary_in f o (Num a) (Num b) k = gives_in f (of_numbers o a b) k
  binary_in f o (Num a) w k = tt
  binary_in f o (Truth a) (Truth b) k = gives_in f (of_truths o a b) k
  binary_in f o (Truth a) w k = tt
  binary_in f o (Text a) (Text b) k = of_texts_in f o a b k
  binary_in f o (Text a) w k = tt
  binary_in f o v w k = tt

  negated_in : (f : Frame) (v : Value) → Of f → In (negated f v)
  negated_in f (Truth b) k = k
  negated_in f v k = tt

  applied_in : (f : Frame) (o : Operation) → Of f → In (applied f o)
  applied_in f (applies.Binary o) k = top_in core ents m f f.stack _ k (λ w g l. top_in core ents m g g.stack _ l (λ v h n. binary_in h o v w n))
  applied_in f (applies.Same b) k = top_in core ents m f f.stack _ k (λ w g l. top_in core ents m g g.stack (λ v h. compared h b v w) l (λ v h n. n))
  applied_in f applies.Not k = top_in core ents m f f.stack _ k (λ v g l. negated_in g v l)

  apply_task_in : (f : Frame) (x : NodeKind) → Of f → In (apply_task f x)
  apply_task_in f x k = given_in (applied_operation x) _ (λ o. applied_in f o k)

  -- ---- one way or another

  truth_in : (f : Frame) (v : Value) (next : Bool → Frame → Move) → Of f → ((b : Bool) (g : Frame) → Of g → In (next b g)) → In (truth next v f)
  truth_in f (Truth b) next k h = h b f k
  truth_in f (Num n) next k h = tt
  truth_in f (Text n) next k h = tt
  truth_in f (Prim n) next k h = tt
  truth_in f (At n) next k h = tt

  right_in : (cs : List ℕ) (f : Frame) → Of f → Each (λ i c. NodeIn core m c) cs → In (right_side f cs)
  right_in (a ∷ b ∷ []) f k h = (k.0, (h 1 b refl, k.1))
  right_in [] f k h = tt
  right_in (a ∷ []) f k h = tt
  right_in (a ∷ b ∷ c ∷ cs) f k h = tt

  decided_in : (o : Connective) (cs : List ℕ) → Each (λ i c. NodeIn core m c) cs → (b : Bool) (f : Frame) → Of f → In (decided o cs b f)
  decided_in joins.And cs h false f k = k
  decided_in joins.And cs h true f k = right_in cs f k h
  decided_in joins.Or cs h true f k = k
  decided_in joins.Or cs h false f k = right_in cs f k h

  test_task_in : (f : Frame) (cs : List ℕ) (x : NodeKind) → Of f → Each (λ i c. NodeIn core m c) cs → In (test_task f cs x)
  test_task_in f cs x k h = given_in (connective x) _ (λ o. top_in core ents m f f.stack (truth (decided o cs)) k (λ v g l. truth_in g v (decided o cs) l (decided_in o cs h)))

  branch_in : (cs : List ℕ) → Each (λ i c. NodeIn core m c) cs → (b : Bool) (f : Frame) → Of f → In (branch cs b f)
  branch_in (c ∷ a ∷ b ∷ []) h true f k = (k.0, (h 1 a refl, k.1))
  branch_in (c ∷ a ∷ b ∷ []) h false f k = (k.0, (h 2 b refl, k.1))
  branch_in [] h t f k = tt
  branch_in (c ∷ []) h t f k = tt
  branch_in (c ∷ a ∷ []) h t f k = tt
  branch_in (c ∷ a ∷ b ∷ d ∷ cs) h t f k = tt

  turn_in : (n : ℕ) (cs : List ℕ) → NodeIn core m n → Each (λ i c. NodeIn core m c) cs → (b : Bool) (f : Frame) → Of f → In (loop_turn n cs b f)
  turn_in n (c ∷ a ∷ []) l h true f k = (k.0, (h 1 a refl, (tt, (l, k.1))))
  turn_in n (c ∷ a ∷ []) l h false f k = k
  turn_in n [] l h t f k = tt
  turn_in n (c ∷ []) l h t f k = tt
  turn_in n (c ∷ a ∷ d ∷ cs) l h t f k = tt

  -- ---- what begins

  counted_in : (x : Method) (vs : List Value) (move : Move) → In move → In (counted x vs move)
  counted_in x vs move k = cond_in core ents m (nat_eq (length vs) (length x.params)) move (Stuck lack.Method) k tt

  begin_new_in : (around : Around) (t : ℕ) (x : Method) (vs : List Value) (f : Frame) (o : Option ℕ) → Of f → UsesMethod core ents m t → slice_get core.methods t ≡ Some x → x.body ≡ o → In (begin_new core around t x vs f o)
  begin_new_in around t x vs f None k u is e = tt
  begin_new_in around t x vs f (Some b) k u is e = ((u, (x, is), (body_in core t b x formed is e, tt)), k)

  make_of_in : (around : Around) (t : ℕ) (vs : List Value) (f : Frame) (o : Option Method) → Of f → UsesMethod core ents m t → slice_get core.methods t ≡ o → In (make_of core around t vs f o)
  make_of_in around t vs f None k u is = tt
  make_of_in around t vs f (Some x) k u is = counted_in x vs (begin_new core around t x vs f x.body) (begin_new_in around t x vs f x.body k u is refl)

  make_task_in : (around : Around) (f : Frame) (cs : List ℕ) (x : NodeKind) → Of f → ((t : ℕ) → Aims core ents x cs t → UsesMethod core ents m t) → In (make_task core around f cs x)
  make_task_in around f cs (node.New t) k u = popped_in core ents m f (popped (length cs) f.stack []) _ k (λ vs g l. make_of_in around t vs g (slice_get core.methods t) l (u t refl) refl)
  make_task_in around f cs x k u = tt

  spawn_of_in : (around : Around) (t : ℕ) (vs : List Value) (f : Frame) (o : Option Method) → Of f → Posts core ents m t → In (spawn_of core around t vs f o)
  spawn_of_in around t vs f None k u = tt
  spawn_of_in around t vs f (Some x) k u = let sent : Posts core ents m t × FrameOf core m f = (u, k) in counted_in x vs (Spawns (blank_object core x.entity) (record { method = t; arguments = vs }) (pushed f (At (own_address around.actors)))) sent

  spawn_task_in : (around : Around) (f : Frame) (cs : List ℕ) (x : NodeKind) → Of f → ((t : ℕ) → Aims core ents x cs t → IsSent core x t → Posts core ents m t) → In (spawn_task core around f cs x)
  spawn_task_in around f cs (node.Spawn t) k u = popped_in core ents m f (popped (length cs) f.stack []) _ k (λ vs g l. spawn_of_in around t vs g (slice_get core.methods t) l (u t refl tt))
  spawn_task_in around f cs x k u = tt

  -- ---- calls

  enter_in : (t : ℕ) (x : Method) (this : Value) (vs : List Value) (f : Frame) (o : Option ℕ) → Of f → UsesMethod core ents m t → slice_get core.methods t ≡ Some x → x.body ≡ o → In (enter t x this vs f o)
  enter_in t x this vs f None k u is e = tt
  enter_in t x this vs f (Some b) k u is e = ((u, (x, is), (body_in core t b x formed is e, tt)), k)

  send_in : (around : Around) (t : ℕ) (x : Method) (vs : List Value) (f : Frame) (v : Value) → Of f → Posts core ents m t → In (send around t x vs f v)
  send_in around t x vs f (At a) k u =
      let sent : Posts core ents m t × FrameOf core m f = (u, k) in
      let message : Message = record { method = t; arguments = vs } in
      cond_in core ents m (nat_eq a.serial 0 && nat_lt a.maker around.actors) (counted x vs (Sends a.maker message (pushed f none))) (Stuck lack.Object) (counted_in x vs (Sends a.maker message (pushed f none)) sent) tt
  send_in around t x vs f (Num n) k u = tt
  send_in around t x vs f (Truth n) k u = tt
  send_in around t x vs f (Text n) k u = tt
  send_in around t x vs f (Prim n) k u = tt

  kind_in : (around : Around) (t : ℕ) (x : Method) (this : Value) (vs : List Value) (f : Frame) (q : MethodKind) → Of f → slice_get core.methods t ≡ Some x → x.kind ≡ q
      → (is_called x.kind ≡ true → UsesMethod core ents m t) → (x.kind ≡ method.Be → Posts core ents m t)
      → In (invoke_kind around t x this vs f q)
  kind_in around t x this vs f method.Fun k is e u s = counted_in x vs (enter t x this vs f x.body) (enter_in t x this vs f x.body k (u (ap is_called e)) is refl)
  kind_in around t x this vs f method.Be k is e u s = send_in around t x vs f this k (s e)
  kind_in around t x this vs f method.New k is e u s = tt
  kind_in around t x this vs f method.Spawn k is e u s = tt

  found_in : (around : Around) (t : ℕ) (this : Value) (vs : List Value) (f : Frame) (o : Option Method) → Of f → slice_get core.methods t ≡ o
      → ((x : Method) → slice_get core.methods t ≡ Some x → is_called x.kind ≡ true → UsesMethod core ents m t)
      → ((x : Method) → slice_get core.methods t ≡ Some x → x.kind ≡ method.Be → Posts core ents m t) → In (invoke_found around t this vs f o)
  found_in around t this vs f None k is u s = tt
  found_in around t this vs f (Some x) k is u s = kind_in around t x this vs f x.kind k is refl (u x is) (s x is)

  text_in : (f : Frame) (o : Option (List ℕ)) → Of f → In (push_text f o)
  text_in f None k = tt
  text_in f (Some t) k = k

  -- By the method that the receiver's own entity has of the name.
  named_in : (around : Around) (name d : ℕ) (this : Value) (vs : List Value) (f : Frame) (o : Option ℕ) → Of f → method_named core d name ≡ o
      → ((t : ℕ) (x : Method) → method_named core d name ≡ Some t → slice_get core.methods t ≡ Some x → is_called x.kind ≡ true → UsesMethod core ents m t)
      → ((t : ℕ) (x : Method) → method_named core d name ≡ Some t → slice_get core.methods t ≡ Some x → x.kind ≡ method.Be → Posts core ents m t)
      → In (invoke_method core around name this vs f o)
  named_in around name d this vs f None k e u s = cond_in core ents m (is_string core name vs) (push_text f (text_of this)) (Stuck lack.Method) (text_in f (text_of this) k) tt
  named_in around name d this vs f (Some t) k e u s = found_in around t this vs f (slice_get core.methods t) k refl (λ x is c. u t x e is c) (λ x is c. s t x e is c)

  last_there : (cs : List ℕ) → 1 ≤ length cs → (r : ℕ) × (slice_get cs (length cs - 1) ≡ Some r)
  last_there cs l = let k : length cs - 1 < length cs = omega (arith, l) in get_within cs (length cs - 1) k

  call_top : (around : Around) (f : Frame) (cs : List ℕ) (name : ℕ) (stack : List Value) → Of f → 1 ≤ length cs
      → ((t : ℕ) → Aims core ents (node.Call name) cs t → UsesMethod core ents m t)
      → ((t : ℕ) → Aims core ents (node.Call name) cs t → IsSent core (node.Call name) t → Posts core ents m t)
      → ((r : ℕ) (v : Value) → receiver_child (node.Call name) cs ≡ Some r → slice_get stack 0 ≡ Some v → IsNoted core ents around.objects r v)
      → In (invoke_task core around (with_stack f stack) cs (node.Call name))
  call_top around f cs name [] k l u s held = tt
  call_top around f cs name (this ∷ below) k l u s held =
      let r = last_there cs l in
      let noted = held r.0 this r.1 refl in
      let aims : (t : ℕ) (x : Method) → method_named core noted.own name ≡ Some t → slice_get core.methods t ≡ Some x → is_called x.kind ≡ true → Aims core ents (node.Call name) cs t =
      λ t x found is c. (noted.noted, bind_is (last_child_of cs) (noted_at ents) r.0 r.1 ∙ noted.is_noted, record { entity = noted.own; may_be = noted.may_be; found = found; method = x; is_method = is; called = c })
      in
      popped_in core ents m (with_stack f below) (popped (length cs - 1) below []) _ k (λ vs g n.
      subst (λ (o : Option ℕ). In (invoke_on core around name this vs g o)) (sym noted.is_own)
      (named_in around name noted.own this vs g (method_named core noted.own name) n refl
      (λ t x found is c. u t (aims t x found is c))
      (λ t x found is c. s t (aims t x found is (ap is_called c)) (x, is, c))))

  call_in_task : (around : Around) (f : Frame) (cs : List ℕ) (x : NodeKind) → Of f → HasArity x (length cs)
      → ((t : ℕ) → Aims core ents x cs t → UsesMethod core ents m t)
      → ((t : ℕ) → Aims core ents x cs t → IsSent core x t → Posts core ents m t)
      → ((r : ℕ) (v : Value) → receiver_child x cs ≡ Some r → slice_get f.stack 0 ≡ Some v → IsNoted core ents around.objects r v)
      → In (invoke_task core around f cs x)
  call_in_task around f cs (node.Call name) k l u s held = call_top around f cs name f.stack k l u s held
  call_in_task around f cs x k l u s held = tt

  -- ---- the end of a method

  leave_object_in : (o : Option (Option Value)) → In (leave_object o)
  leave_object_in None = tt
  leave_object_in (Some None) = tt
  leave_object_in (Some (Some v)) = tt

  leave_in : (f : Frame) (q : MethodKind) → Of f → In (leave f q)
  leave_in f method.Fun k = top_in core ents m f f.stack (λ v g. Leaves (Some v)) k (λ v g l. tt)
  leave_in f method.New k = leave_object_in (slice_get f.slots 0)
  leave_in f method.Be k = tt
  leave_in f method.Spawn k = tt

  return_in : (f : Frame) (o : Option Method) → Of f → In (return_task f o)
  return_in f None k = tt
  return_in f (Some x) k = leave_in f x.kind k

  -- ---- each task

  module _ (around : Around) (f : Frame) (k : FrameOf core m f) where
    abbrev Does : Task → Type 0
    Does t = TaskIn core m t → CallNoted core ents around.objects (t ∷ f.tasks) f.stack → MoveIn core ents m (task_move core around f t)

    module _ (n : ℕ) (here : NodeIn core m n) where
      abbrev uses : (x : Node) → slice_get core.nodes n ≡ Some x → (t : ℕ) → Aims core ents x.kind x.children t → UsesMethod core ents m t
      uses x at t a = record { number = n; node = x; is_node = at; own = here x at; aims = a }

      posts : (x : Node) → slice_get core.nodes n ≡ Some x → (t : ℕ) → Aims core ents x.kind x.children t → IsSent core x.kind t → Posts core ents m t
      posts x at t a s = (uses x at t a, s)

      own_children : (x : Node) → slice_get core.nodes n ≡ Some x → Each (λ i c. NodeIn core m c) x.children
      own_children x at i c e y is = children_in core n x formed at i c e y is ∙ here x at

      eval_node : (o : Option Node) → slice_get core.nodes n ≡ o → In (evaluate_node f n o)
      eval_node None at = tt
      eval_node (Some x) at = way_in f n x.children (way_of n x.kind) k (own_children x at) (own_way n x.kind here)

      at_node_in : (o : Option Node) (next : Node → Move) → slice_get core.nodes n ≡ o → ((x : Node) → slice_get core.nodes n ≡ Some x → In (next x)) → In (at_node o next)
      at_node_in None next at h = tt
      at_node_in (Some x) next at h = h x at

      call_node : CallNoted core ents around.objects (task.Invoke n ∷ f.tasks) f.stack → (x : Node) → slice_get core.nodes n ≡ Some x → In (invoke_task core around f x.children x.kind)
      call_node held x at = call_in_task around f x.children x.kind k (formed.nodes n x at).arity (uses x at) (posts x at) (λ r v er ev. held r v (rw (at, er, ev) refl))

    pub task_in : (t : Task) → Does t
    task_in (task.Eval n) here held = eval_node n here (slice_get core.nodes n) refl
    task_in (task.Get n) here held = at_node_in n here (slice_get core.nodes n) _ refl (λ x at. get_task_in around f x.kind k)
    task_in (task.Put n) here held = at_node_in n here (slice_get core.nodes n) _ refl (λ x at. put_task_in around f x.kind k)
    task_in (task.Store n) here held = at_node_in n here (slice_get core.nodes n) _ refl (λ x at. store_task_in f x.kind k)
    task_in (task.Make n) here held = at_node_in n here (slice_get core.nodes n) _ refl (λ x at. make_task_in around f x.children x.kind k (uses n here x at))
    task_in (task.Spawn n) here held = at_node_in n here (slice_get core.nodes n) _ refl (λ x at. spawn_task_in around f x.children x.kind k (posts n here x at))
    task_in (task.Invoke n) here held = at_node_in n here (slice_get core.nodes n) _ refl (call_node n here held)
    task_in (task.Apply n) here held = at_node_in n here (slice_get core.nodes n) _ refl (λ x at. apply_task_in f x.kind k)
    task_in (task.Test n) here held = at_node_in n here (slice_get core.nodes n) _ refl (λ x at. test_task_in f x.children x.kind k (own_children n here x at))
    task_in (task.Branch n) here held = at_node_in n here (slice_get core.nodes n) _ refl (λ x at. top_in core ents m f f.stack (truth (branch x.children)) k (λ v g l. truth_in g v (branch x.children) l (branch_in x.children (own_children n here x at))))
    task_in (task.Loop n) here held = at_node_in n here (slice_get core.nodes n) _ refl (λ x at. top_in core ents m f f.stack (truth (loop_turn n x.children)) k (λ v g l. truth_in g v (loop_turn n x.children) l (turn_in n x.children here (own_children n here x at))))
    task_in task.Discard here held = top_in core ents m f f.stack (λ v g. Goes g) k (λ v g l. l)
    task_in task.Return here held = return_in f (slice_get core.methods f.method) k
