-- What the other tasks change: a field that they are about to write, a new object of the actor, or another's mailbox.
use Rattle.std.specs.{Prelude.{◌≡◌, ◌<◌, ◌&&◌, ℕ, ◌-◌, Bool, true, false, if◌then◌else◌, List, [], ◌∷◌, length, Option, Some, None, slice_get, nat_lt, nat_eq, refl, ⊤}, FinMap.get}
use Rattle.std.proofs.{Common.{ap, ◌∙◌}, lemmas.Bool.{and_parts, ltb-true}}
use Rattle.pc_base.proofs.Gets.{get_below}
use Rattle.pc_heap.specs.{Objects.{ObjectMap, class_at, next_address, Object}, Parts.class_in, declared.value.Address.Address, declared.value.Value.Value, declared.value.Value.TheVariants.At}
use Rattle.pc_core.specs.{CoreData.{field_named, method_named, CoreData}, declared.declarations.Method.Method, declared.declarations.MethodKind.MethodKind, declared.nodes.Node.Node, declared.nodes.NodeKind.NodeKind, Kinds.field_written}
use Rattle.pc_base.specs.Lists.{◌>>=◌}
use Rattle.pc_core.specs.declared.declarations.MethodKind.TheVariants as method
use Rattle.pc_core.specs.declared.nodes.NodeKind.TheVariants as node
use Rattle.pc_semantics.specs.{declared.access.Access.Access, declared.frames.Frame.Frame, declared.frames.Task.Task, Configurations.{blank_object, Around, Move, Stuck, Overflows, Goes, Writes, Makes, Spawns, Enters, Sends, Leaves, with_stack, pop, popped, pop_arguments, value_entity, address_of}, Parts.{with_top, get_value, get_field, get_of, get_from, put_value, put_field, put_of, put_into, begin_new, make_of, spawn_of, enter, send, push_text, invoke_found, invoke_method, invoke_on, at_node}, Calls.{get_task, put_task, make_task, spawn_task, invoke_kind, is_string, text_of, invoke_task}, Step.task_move, Safety.touched_name}
use Rattle.pc_semantics.specs.declared.frames.Task.TheVariants as task
use Rattle.pc_events.proofs.Plain.{Plain, top_all, arguments_all, node_all, blind_plain}

-- ---- what a task is about to touch

-- The field of the object that a value is.
abbrev pub touch_by : CoreData → ObjectMap → ℕ × Bool → Option Value → Option Access
touch_by core h t v = v >>= (λ v. address_of v >>= (λ a. class_at h a >>= (λ e. field_named core e t.0 >>= (λ i. Some (record { address = a; field = i; write = t.1 })))))

abbrev pub touch : CoreData → ObjectMap → List Value → Task → Option Access
touch core h stack t = touched_name core t >>= (λ n. touch_by core h n (slice_get stack 0))

-- ---- the moves

-- An object of an entity, without field values.
abbrev pub Blank : CoreData → Object → Type 0
Blank core o = (e : ℕ) × (o ≡ blank_object core e)

abbrev pub Right : CoreData → ObjectMap → ℕ → ℕ → List Value → Task → Move → Type 0
Right core h i n stack t (Stuck l) = ⊤
Right core h i n stack t Overflows = ⊤
Right core h i n stack t (Goes f) = ⊤
Right core h i n stack t (Writes a k v f) = (o : Object) × (get h a ≡ Some o) × (touch core h stack t ≡ Some (record { address = a; field = k; write = true })) × (k < length o.fields)
Right core h i n stack t (Makes a o g f) = (a ≡ next_address h i) × Blank core o
Right core h i n stack t (Spawns o m f) = Blank core o
Right core h i n stack t (Enters g f) = ⊤
Right core h i n stack t (Sends j m f) = j < n
Right core h i n stack t (Leaves v) = ⊤

plain_right : (core : CoreData) (h : ObjectMap) (i n : ℕ) (stack : List Value) (t : Task) (m : Move) → Plain m → Right core h i n stack t m
plain_right core h i n stack t (Stuck l) p = tt
plain_right core h i n stack t Overflows p = tt
plain_right core h i n stack t (Goes f) p = tt
plain_right core h i n stack t (Writes a k v f) p = absurd p
plain_right core h i n stack t (Makes a o g f) p = absurd p
plain_right core h i n stack t (Spawns o m f) p = absurd p
plain_right core h i n stack t (Enters g f) p = tt
plain_right core h i n stack t (Sends j m f) p = absurd p
plain_right core h i n stack t (Leaves v) p = tt

-- ---- reads

value_plain : (f : Frame) (o : Option (Option Value)) → Plain (get_value f o)
value_plain f None = tt
value_plain f (Some None) = tt
value_plain f (Some (Some v)) = tt

field_plain : (f : Frame) (o : Object) (p : Option ℕ) → Plain (get_field f o p)
field_plain f o None = tt
field_plain f o (Some i) = value_plain f (slice_get o.fields i)

read_plain : (core : CoreData) (f : Frame) (name : ℕ) (p : Option Object) → Plain (get_of core f name p)
read_plain core f name None = tt
read_plain core f name (Some o) = field_plain f o (field_named core o.entity name)

from_plain : (core : CoreData) (around : Around) (name : ℕ) (v : Value) (f : Frame) → Plain (get_from core around name v f)
from_plain core around name (At a) f = read_plain core f name (get around.objects a)
from_plain core around name v f = tt

get_plain : (core : CoreData) (around : Around) (f : Frame) (k : NodeKind) → Plain (get_task core around f k)
get_plain core around f (node.Field name) = top_all Plain f f.stack (get_from core around name) (λ v vs. from_plain core around name v (with_stack f vs)) tt
get_plain core around f k = tt

-- ---- writes

module _ (core : CoreData) (h : ObjectMap) (i n : ℕ) (stack : List Value) (t : Task) where
  old_right : (f : Frame) (a : Address) (k : ℕ) (v : Value) (o : Object) → get h a ≡ Some o → touch core h stack t ≡ Some (record { address = a; field = k; write = true }) → (p : Option (Option Value)) → slice_get o.fields k ≡ p → Right core h i n stack t (put_value f a k v p)
  old_right f a k v o e s None q = tt
  old_right f a k v o e s (Some old) q = (o, e, s, get_below o.fields k old q)

  field_right : (f : Frame) (a : Address) (v : Value) (o : Object) → get h a ≡ Some o → (q : Option ℕ) → ((k : ℕ) → q ≡ Some k → touch core h stack t ≡ Some (record { address = a; field = k; write = true })) → Right core h i n stack t (put_field f a o v q)
  field_right f a v o e None s = tt
  field_right f a v o e (Some k) s = old_right f a k v o e (s k refl) (slice_get o.fields k) refl

  object_right : (f : Frame) (name : ℕ) (a : Address) (v : Value) (p : Option Object) → get h a ≡ p → ((o : Object) (k : ℕ) → get h a ≡ Some o → field_named core o.entity name ≡ Some k → touch core h stack t ≡ Some (record { address = a; field = k; write = true })) → Right core h i n stack t (put_of core f name a v p)
  object_right f name a v None e s = tt
  object_right f name a v (Some o) e s = field_right f a v o e (field_named core o.entity name) (λ k q. s o k e q)

  -- ---- new objects

  begin_right : (m : ℕ) (x : Method) (vs : List Value) (f : Frame) (b : Option ℕ) → Right core h i n stack t (begin_new core (record { objects = h; actor = i; actors = n }) m x vs f b)
  begin_right m x vs f None = tt
  begin_right m x vs f (Some b) = (refl, (x.entity, refl))

  if_right : (b : Bool) (x y : Move) → (b ≡ true → Right core h i n stack t x) → Right core h i n stack t y → Right core h i n stack t (if b then x else y)
  if_right true x y p q = p refl
  if_right false x y p q = q

  make_right : (m : ℕ) (vs : List Value) (f : Frame) (p : Option Method) → Right core h i n stack t (make_of core (record { objects = h; actor = i; actors = n }) m vs f p)
  make_right m vs f None = tt
  make_right m vs f (Some x) = if_right (nat_eq (length vs) (length x.params)) _ _ (λ e. begin_right m x vs f x.body) tt

  make_task_right : (f : Frame) (cs : List ℕ) (k : NodeKind) → Right core h i n stack t (make_task core (record { objects = h; actor = i; actors = n }) f cs k)
  make_task_right f cs (node.New m) = arguments_all (Right core h i n stack t) f (popped (length cs) f.stack []) _ (λ vs g. make_right m vs g (slice_get core.methods m)) tt
  make_task_right f cs k = tt

  -- ---- new actors

  spawn_right : (m : ℕ) (vs : List Value) (f : Frame) (p : Option Method) → Right core h i n stack t (spawn_of core (record { objects = h; actor = i; actors = n }) m vs f p)
  spawn_right m vs f None = tt
  spawn_right m vs f (Some x) = if_right (nat_eq (length vs) (length x.params)) _ _ (λ e. (x.entity, refl)) tt

  spawn_task_right : (f : Frame) (cs : List ℕ) (k : NodeKind) → Right core h i n stack t (spawn_task core (record { objects = h; actor = i; actors = n }) f cs k)
  spawn_task_right f cs (node.Spawn m) = arguments_all (Right core h i n stack t) f (popped (length cs) f.stack []) _ (λ vs g. spawn_right m vs g (slice_get core.methods m)) tt
  spawn_task_right f cs k = tt

  -- ---- calls and messages

  send_right : (m : ℕ) (x : Method) (vs : List Value) (f : Frame) (v : Value) → Right core h i n stack t (send (record { objects = h; actor = i; actors = n }) m x vs f v)
  send_right m x vs f (At a) =
      if_right (nat_eq a.serial 0 && nat_lt a.maker n) _ _ (λ e. let p = and_parts (nat_eq a.serial 0) (nat_lt a.maker n) e in if_right (nat_eq (length vs) (length x.params)) _ _ (λ q. ltb-true a.maker n p.1) tt) tt
  send_right m x vs f v = tt

  enter_right : (m : ℕ) (x : Method) (v : Value) (vs : List Value) (f : Frame) (b : Option ℕ) → Right core h i n stack t (enter m x v vs f b)
  enter_right m x v vs f None = tt
  enter_right m x v vs f (Some b) = tt

  kind_right : (m : ℕ) (x : Method) (v : Value) (vs : List Value) (f : Frame) (k : MethodKind) → Right core h i n stack t (invoke_kind (record { objects = h; actor = i; actors = n }) m x v vs f k)
  kind_right m x v vs f method.Fun = if_right (nat_eq (length vs) (length x.params)) _ _ (λ e. enter_right m x v vs f x.body) tt
  kind_right m x v vs f method.Be = send_right m x vs f v
  kind_right m x v vs f k = tt

  found_right : (m : ℕ) (v : Value) (vs : List Value) (f : Frame) (p : Option Method) → Right core h i n stack t (invoke_found (record { objects = h; actor = i; actors = n }) m v vs f p)
  found_right m v vs f None = tt
  found_right m v vs f (Some x) = kind_right m x v vs f x.kind

  text_right : (f : Frame) (p : Option (List ℕ)) → Right core h i n stack t (push_text f p)
  text_right f None = tt
  text_right f (Some s) = tt

  method_right : (name : ℕ) (v : Value) (vs : List Value) (f : Frame) (p : Option ℕ) → Right core h i n stack t (invoke_method core (record { objects = h; actor = i; actors = n }) name v vs f p)
  method_right name v vs f None = if_right (is_string core name vs) _ _ (λ e. text_right f (text_of v)) tt
  method_right name v vs f (Some m) = found_right m v vs f (slice_get core.methods m)

  on_right : (name : ℕ) (v : Value) (vs : List Value) (f : Frame) (p : Option ℕ) → Right core h i n stack t (invoke_on core (record { objects = h; actor = i; actors = n }) name v vs f p)
  on_right name v vs f None = tt
  on_right name v vs f (Some e) = method_right name v vs f (method_named core e name)

  invoke_right : (f : Frame) (cs : List ℕ) (k : NodeKind) → Right core h i n stack t (invoke_task core (record { objects = h; actor = i; actors = n }) f cs k)
  invoke_right f cs (node.Call name) =
      let on = λ (v : Value) (us : List Value) (g : Frame). invoke_on core (record { objects = h; actor = i; actors = n }) name v us g (value_entity h v) in
      top_all (Right core h i n stack t) f f.stack (λ v g. pop_arguments g (length cs - 1) (on v))
      (λ v vs. arguments_all (Right core h i n stack t) (with_stack f vs) (popped (length cs - 1) vs []) (on v) (λ us g. on_right name v us g (value_entity h v)) tt) tt
  invoke_right f cs k = tt

-- ---- writes, by the node

module _ (core : CoreData) (h : ObjectMap) (i n : ℕ) (k : ℕ) where
  into_right : (name : ℕ) (o v : Value) (below : List Value) (f : Frame) → touched_name core (task.Put k) ≡ Some (name, true)
      → Right core h i n (o ∷ below) (task.Put k) (put_into core (record { objects = h; actor = i; actors = n }) name o v f)
  into_right name (At a) v below f is =
      object_right core h i n (At a ∷ below) (task.Put k) f name a v (get h a) refl (λ o j e q.
      ap (λ (z : Option (ℕ × Bool)). z >>= (λ n. touch_by core h n (Some (At a)))) is
      ∙ ap (λ (z : Option Object). class_in z >>= (λ e. field_named core e name >>= (λ i. Some (record { address = a; field = i; write = true })))) e
      ∙ ap (λ (z : Option ℕ). z >>= (λ i. Some (record { address = a; field = i; write = true }))) q)
  into_right name v w below f is = tt

  second_right : (name : ℕ) (o : Value) (vs below : List Value) (f : Frame) → vs ≡ below → touched_name core (task.Put k) ≡ Some (name, true)
      → Right core h i n (o ∷ below) (task.Put k) (with_top f vs (put_into core (record { objects = h; actor = i; actors = n }) name o))
  second_right name o vs below f s is = top_all (Right core h i n (o ∷ below) (task.Put k)) f vs (put_into core (record { objects = h; actor = i; actors = n }) name o) (λ v us. into_right name o v below (with_stack f us) is) tt

  first_right : (name : ℕ) (vs : List Value) (f : Frame) → touched_name core (task.Put k) ≡ Some (name, true)
      → Right core h i n vs (task.Put k) (with_top f vs (λ o g. pop g (put_into core (record { objects = h; actor = i; actors = n }) name o)))
  first_right name [] f is = tt
  first_right name (o ∷ vs) f is = second_right name o vs vs (with_stack f vs) refl is

  put_right : (f : Frame) (x : Node) → slice_get core.nodes k ≡ Some x → (kind : NodeKind) → x.kind ≡ kind → Right core h i n f.stack (task.Put k) (put_task core (record { objects = h; actor = i; actors = n }) f kind)
  put_right f x e (node.SetField name) s =
      first_right name f.stack f (ap (λ (z : Option Node). z >>= (λ x. field_written x.kind >>= (λ name. Some (name, true)))) e ∙ ap (λ (z : NodeKind). field_written z >>= (λ name. Some (name, true))) s)
  put_right f x e kind s = tt

  put_node_right : (f : Frame) (o : Option Node) → slice_get core.nodes k ≡ o → Right core h i n f.stack (task.Put k) (at_node o (λ x. put_task core (record { objects = h; actor = i; actors = n }) f x.kind))
  put_node_right f None e = tt
  put_node_right f (Some x) e = put_right f x e x.kind refl

-- ---- every task

pub right : (core : CoreData) (h : ObjectMap) (i n : ℕ) (f : Frame) (t : Task) → Right core h i n f.stack t (task_move core (record { objects = h; actor = i; actors = n }) f t)
right core h i n f (task.Get k) = plain_right core h i n f.stack (task.Get k) _ (node_all Plain (slice_get core.nodes k) _ (λ x. get_plain core (record { objects = h; actor = i; actors = n }) f x.kind) tt)
right core h i n f (task.Put k) = put_node_right core h i n k f (slice_get core.nodes k) refl
right core h i n f (task.Make k) = node_all (Right core h i n f.stack (task.Make k)) (slice_get core.nodes k) _ (λ x. make_task_right core h i n f.stack (task.Make k) f x.children x.kind) tt
right core h i n f (task.Spawn k) = node_all (Right core h i n f.stack (task.Spawn k)) (slice_get core.nodes k) _ (λ x. spawn_task_right core h i n f.stack (task.Spawn k) f x.children x.kind) tt
right core h i n f (task.Invoke k) = node_all (Right core h i n f.stack (task.Invoke k)) (slice_get core.nodes k) _ (λ x. invoke_right core h i n f.stack (task.Invoke k) f x.children x.kind) tt
right core h i n f t = plain_right core h i n f.stack t _ (blind_plain core (record { objects = h; actor = i; actors = n }) f t tt)
