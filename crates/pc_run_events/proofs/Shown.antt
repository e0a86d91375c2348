-- What a task's move shows: a message that is sent is of the method that is called; and an object that is made is of
-- the constructor's entity, and is `this` in the frame that begins.
use Rattle.std.specs.Prelude.{◌≡◌, ◌&&◌, ℕ, ◌-◌, Bool, true, false, if◌then◌else◌, List, [], length, Option, Some, None, slice_get, nat_eq, nat_lt, refl}
use Rattle.std.proofs.{Common.{ap, sym, ◌∙◌}, lemmas.Bool.{and_parts, eqb-true}}
use Rattle.pc_core.specs.{CoreData.{CoreData, method_named}, declared.declarations.Method.Method, declared.declarations.MethodKind.MethodKind, declared.nodes.Node.Node, declared.nodes.NodeKind.NodeKind}
use Rattle.pc_core.specs.declared.declarations.MethodKind.TheVariants as method
use Rattle.pc_core.specs.declared.nodes.NodeKind.TheVariants as node
use Rattle.pc_events.proofs.Plain.{Plain as Local, arguments_all, blind_plain, node_all, top_all}
use Rattle.pc_heap.specs.{Objects.{ObjectMap, class_at}, declared.value.Value.Value, declared.value.Value.TheVariants.At}
use Rattle.pc_base.specs.Lists.{◌>>=◌}
use Rattle.pc_run_events.proofs.Access.{Plain, get_node, put_node}
use Rattle.pc_run_events.specs.Sights.{method_called, name_called}
use Rattle.pc_semantics.specs.{Configurations.{Around, Move, Stuck, Overflows, Goes, Writes, Makes, Spawns, Enters, Sends, Leaves, value_entity, popped, with_stack, own_address, pop_arguments}, Parts.{begin_new, enter, invoke_found, invoke_method, invoke_on, make_of, push_text, send, spawn_of, at_node}, Calls.{invoke_kind, invoke_task, is_string, make_task, spawn_task, text_of}, Safety.touched_name, Step.task_move, declared.frames.Frame.Frame, declared.frames.Task.Task}
use Rattle.pc_semantics.specs.declared.frames.Task.TheVariants as task

-- Some method is one of this entity.
abbrev pub OfConstructor : CoreData → (entity : ℕ) → Type 0
OfConstructor core e = (m : ℕ) × (x : Method) × (slice_get core.methods m ≡ Some x) × (e ≡ x.entity)

abbrev pub Shown : CoreData → ObjectMap → Task → Move → Type 0
Shown core h t (Stuck l) = Unit {0}
Shown core h t Overflows = Unit {0}
Shown core h t (Goes f) = Unit {0}
Shown core h t (Writes a k v f) = Unit {0}
Shown core h t (Makes a o g f) = (slice_get g.slots 0 ≡ Some (Some (At a))) × (touched_name core t ≡ None) × OfConstructor core o.entity
Shown core h t (Spawns o m f) = Unit {0}
Shown core h t (Enters g f) = Unit {0}
Shown core h t (Sends j m f) = method_called core h t j ≡ Some m.method
Shown core h t (Leaves v) = Unit {0}

module _ (core : CoreData) (h : ObjectMap) (t : Task) where
  plain_shown : (m : Move) → Plain m → Shown core h t m
  plain_shown (Stuck l) p = tt
  plain_shown Overflows p = tt
  plain_shown (Goes f) p = tt
  plain_shown (Writes a k v f) p = tt
  plain_shown (Makes a o g f) p = absurd p
  plain_shown (Spawns o m f) p = absurd p
  plain_shown (Enters g f) p = absurd p
  plain_shown (Sends j m f) p = absurd p
  plain_shown (Leaves v) p = absurd p

  local_shown : (m : Move) → Local m → Shown core h t m
  local_shown (Stuck l) p = tt
  local_shown Overflows p = tt
  local_shown (Goes f) p = tt
  local_shown (Writes a k v f) p = absurd p
  local_shown (Makes a o g f) p = absurd p
  local_shown (Spawns o m f) p = absurd p
  local_shown (Enters g f) p = tt
  local_shown (Sends j m f) p = absurd p
  local_shown (Leaves v) p = tt

  if_shown : (b : Bool) (x y : Move) → (b ≡ true → Shown core h t x) → Shown core h t y → Shown core h t (if b then x else y)
  if_shown true x y p q = p refl
  if_shown false x y p q = q

  -- ---- new actors

  spawn_shown : (a : Around) (m : ℕ) (vs : List Value) (f : Frame) (p : Option Method) → Shown core h t (spawn_of core a m vs f p)
  spawn_shown a m vs f None = tt
  spawn_shown a m vs f (Some x) = if_shown (nat_eq (length vs) (length x.params)) _ _ (λ e. tt) tt

  spawn_task_shown : (a : Around) (f : Frame) (cs : List ℕ) (k : NodeKind) → Shown core h t (spawn_task core a f cs k)
  spawn_task_shown a f cs (node.Spawn m) = arguments_all (Shown core h t) f (popped (length cs) f.stack []) _ (λ vs g. spawn_shown a m vs g (slice_get core.methods m)) tt
  spawn_task_shown a f cs k = tt

  -- ---- functions

  enter_shown : (m : ℕ) (x : Method) (v : Value) (vs : List Value) (f : Frame) (b : Option ℕ) → Shown core h t (enter m x v vs f b)
  enter_shown m x v vs f None = tt
  enter_shown m x v vs f (Some b) = tt

  text_shown : (f : Frame) (p : Option (List ℕ)) → Shown core h t (push_text f p)
  text_shown f None = tt
  text_shown f (Some s) = tt

-- ---- new objects

module _ (core : CoreData) (h : ObjectMap) (n : ℕ) (a : Around) where
  abbrev Made : Move → Type 0
  Made m = Shown core h (task.Make n) m

  begin_shown : (m : ℕ) (x : Method) → slice_get core.methods m ≡ Some x → (vs : List Value) (f : Frame) (b : Option ℕ) → Made (begin_new core a m x vs f b)
  begin_shown m x there vs f None = tt
  begin_shown m x there vs f (Some b) = (refl, refl, (m, x, there, refl))

  make_shown : (m : ℕ) (vs : List Value) (f : Frame) (p : Option Method) → slice_get core.methods m ≡ p → Made (make_of core a m vs f p)
  make_shown m vs f None there = tt
  make_shown m vs f (Some x) there = if_shown core h (task.Make n) (nat_eq (length vs) (length x.params)) _ _ (λ e. begin_shown m x there vs f x.body) tt

  make_task_shown : (f : Frame) (cs : List ℕ) (k : NodeKind) → Made (make_task core a f cs k)
  make_task_shown f cs (node.New m) = arguments_all (Shown core h (task.Make n)) f (popped (length cs) f.stack []) _ (λ vs g. make_shown m vs g (slice_get core.methods m) refl) tt
  make_task_shown f cs k = tt

-- ---- messages

module _ (core : CoreData) (h : ObjectMap) (i actors n : ℕ) where
  abbrev Called : Move → Type 0
  Called m = Shown core h (task.Invoke n) m

  abbrev a : Around
  a = record { objects = h; actor = i; actors = actors }

  -- A name is called.
  module _ (name : ℕ) (named : (r : ℕ) → method_called core h (task.Invoke n) r ≡ (class_at h (own_address r) >>= (λ e. method_named core e name))) where
    module _ (v : Value) (e : ℕ) (is : value_entity h v ≡ Some e) (m : ℕ) (found : method_named core e name ≡ Some m) where
      to_actor : (r s : ℕ) → class_at h (record { maker = r; serial = s }) ≡ Some e → s ≡ 0 → method_called core h (task.Invoke n) r ≡ Some m
      to_actor r s own zero =
          named r ∙ ap (λ (k : ℕ). class_at h (record { maker = r; serial = k }) >>= (λ e. method_named core e name)) (sym zero)
          ∙ ap (λ (o : Option ℕ). o >>= (λ e. method_named core e name)) own ∙ found

      send_shown : (x : Method) (vs : List Value) (f : Frame) (w : Value) → value_entity h w ≡ Some e → Called (send a m x vs f w)
      send_shown x vs f (At q) own =
          if_shown core h (task.Invoke n) (nat_eq q.serial 0 && nat_lt q.maker actors) _ _ (λ b.
          if_shown core h (task.Invoke n) (nat_eq (length vs) (length x.params)) _ _ (λ c. to_actor q.maker q.serial own (eqb-true q.serial 0 (and_parts (nat_eq q.serial 0) (nat_lt q.maker actors) b).0)) tt) tt
      send_shown x vs f w own = tt

      kind_shown : (x : Method) (vs : List Value) (f : Frame) (k : MethodKind) → Called (invoke_kind a m x v vs f k)
      kind_shown x vs f method.Fun = if_shown core h (task.Invoke n) (nat_eq (length vs) (length x.params)) _ _ (λ c. enter_shown core h (task.Invoke n) m x v vs f x.body) tt
      kind_shown x vs f method.Be = send_shown x vs f v is
      kind_shown x vs f k = tt

      found_shown : (vs : List Value) (f : Frame) (p : Option Method) → Called (invoke_found a m v vs f p)
      found_shown vs f None = tt
      found_shown vs f (Some x) = kind_shown x vs f x.kind

    method_shown : (v : Value) (e : ℕ) → value_entity h v ≡ Some e → (vs : List Value) (f : Frame) (p : Option ℕ) → method_named core e name ≡ p → Called (invoke_method core a name v vs f p)
    method_shown v e is vs f None found = if_shown core h (task.Invoke n) (is_string core name vs) _ _ (λ c. text_shown core h (task.Invoke n) f (text_of v)) tt
    method_shown v e is vs f (Some m) found = found_shown v e is m found vs f (slice_get core.methods m)

    on_shown : (v : Value) (vs : List Value) (f : Frame) (p : Option ℕ) → value_entity h v ≡ p → Called (invoke_on core a name v vs f p)
    on_shown v vs f None is = tt
    on_shown v vs f (Some e) is = method_shown v e is vs f (method_named core e name) refl

  invoke_shown : (f : Frame) (x : Node) → slice_get core.nodes n ≡ Some x → (k : NodeKind) → x.kind ≡ k → Called (invoke_task core a f x.children k)
  invoke_shown f x there (node.Call name) is =
      let on = λ (v : Value) (us : List Value) (g : Frame). invoke_on core a name v us g (value_entity h v) in
      top_all (Shown core h (task.Invoke n)) f f.stack (λ v g. pop_arguments g (length x.children - 1) (on v))
      (λ v vs. arguments_all (Shown core h (task.Invoke n)) (with_stack f vs) (popped (length x.children - 1) vs []) (on v) (λ us g. on_shown name named v us g (value_entity h v) refl) tt) tt
    where
      named : (r : ℕ) → method_called core h (task.Invoke n) r ≡ (class_at h (own_address r) >>= (λ e. method_named core e name))
      named r =
          ap (λ (o : Option Node). o >>= (λ x. name_called x.kind >>= (λ name. class_at h (own_address r) >>= (λ e. method_named core e name)))) there
          ∙ ap (λ (k : NodeKind). name_called k >>= (λ name. class_at h (own_address r) >>= (λ e. method_named core e name))) is
  invoke_shown f x there k is = tt

  invoke_node : (f : Frame) (o : Option Node) → slice_get core.nodes n ≡ o → Called (at_node o (λ x. invoke_task core a f x.children x.kind))
  invoke_node f None there = tt
  invoke_node f (Some x) there = invoke_shown f x there x.kind refl

-- ---- every task

pub shown : (core : CoreData) (h : ObjectMap) (i n : ℕ) (f : Frame) (t : Task) → Shown core h t (task_move core (record { objects = h; actor = i; actors = n }) f t)
shown core h i n f (task.Get k) = plain_shown core h (task.Get k) _ (get_node core (record { objects = h; actor = i; actors = n }) f (slice_get core.nodes k))
shown core h i n f (task.Put k) = plain_shown core h (task.Put k) _ (put_node core (record { objects = h; actor = i; actors = n }) f (slice_get core.nodes k))
shown core h i n f (task.Make k) = node_all (Shown core h (task.Make k)) (slice_get core.nodes k) _ (λ x. make_task_shown core h k (record { objects = h; actor = i; actors = n }) f x.children x.kind) tt
shown core h i n f (task.Spawn k) = node_all (Shown core h (task.Spawn k)) (slice_get core.nodes k) _ (λ x. spawn_task_shown core h (task.Spawn k) (record { objects = h; actor = i; actors = n }) f x.children x.kind) tt
shown core h i n f (task.Invoke k) = invoke_node core h i n k f (slice_get core.nodes k) refl
shown core h i n f t = local_shown core h t _ (blind_plain core (record { objects = h; actor = i; actors = n }) f t tt)
