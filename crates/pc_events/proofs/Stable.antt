-- A task makes the same move if what it sees has not changed.
use Rattle.std.specs.{Prelude.{◌≡◌, ◌&&◌, ℕ, ◌-◌, Bool, true, false, if◌then◌else◌, List, [], ◌∷◌, length, Option, Some, None, slice_get, nat_lt, nat_eq, refl, ⊤}, FinMap.get}
use Rattle.std.proofs.{Common.{ap, sym, ◌∙◌}, lemmas.Option.{same_Some, none-some}}
use Rattle.pc_heap.specs.{Objects.{ObjectMap, class_at, made_by, Object}, Parts.{class_in, field_in}, Fields.field_at, declared.value.Address.Address, declared.value.Value.Value, declared.value.Value.TheVariants.{Num, Truth, Text, Prim, At}}
use Rattle.pc_core.specs.{CoreData.{field_named, method_named, CoreData}, declared.declarations.Method.Method, declared.declarations.MethodKind.MethodKind, declared.nodes.Node.Node, declared.nodes.NodeKind.NodeKind, Kinds.{field_read, field_written}}
use Rattle.pc_base.specs.Lists.{◌>>=◌}
use Rattle.pc_core.specs.declared.declarations.MethodKind.TheVariants as method
use Rattle.pc_core.specs.declared.nodes.NodeKind.TheVariants as node
use Rattle.pc_semantics.specs.{declared.access.Access.Access, declared.frames.Frame.Frame, declared.frames.Task.Task, Configurations.{blank_object, Around, Move, Stuck, Makes, with_stack, pop, popped, pop_arguments, value_entity, first_frame}, Parts.{with_top, with_popped, get_value, get_field, get_of, get_from, put_value, put_field, put_of, put_into, begin_new, make_of, spawn_of, send, invoke_found, invoke_method, invoke_on, at_node}, Calls.{get_task, put_task, counted, make_task, spawn_task, invoke_kind, invoke_task}, Step.task_move, Safety.touched_name, Ahead.by_move}
use Rattle.pc_semantics.specs.declared.frames.Task.TheVariants as task
use Rattle.pc_semantics.specs.declared.outcome.Lack.TheVariants as lack
use Rattle.pc_semantics.specs.declared.ahead.Ahead.TheVariants as ahead
use Rattle.pc_events.proofs.{Plain.{arguments_all, node_all, blind_same}, Right.{touch, touch_by}}

abbrev pub NotStuck : Move → Type 0
NotStuck (Stuck l) = ⊥
NotStuck m = ⊤

abbrev pub IsSpawn : Task → Type 0
IsSpawn (task.Spawn n) = ⊤
IsSpawn t = ⊥

-- ---- the top of the stack

top_same : (f : Frame) (vs : List Value) (new old : Value → Frame → Move) → ((v : Value) (us : List Value) → NotStuck (old v (with_stack f us)) → new v (with_stack f us) ≡ old v (with_stack f us)) → NotStuck (with_top f vs old) → with_top f vs new ≡ with_top f vs old
top_same f [] new old k s = refl
top_same f (v ∷ vs) new old k s = k v vs s

popped_same : (f : Frame) (o : Option (List Value × List Value)) (new old : List Value → Frame → Move) → ((vs : List Value) (g : Frame) → NotStuck (old vs g) → new vs g ≡ old vs g) → NotStuck (with_popped f o old) → with_popped f o new ≡ with_popped f o old
popped_same f None new old k s = refl
popped_same f (Some p) new old k s = k p.0 (with_stack f p.1) s

nodes_same : (o : Option Node) (new old : Node → Move) → ((x : Node) → NotStuck (old x) → new x ≡ old x) → NotStuck (at_node o old) → at_node o new ≡ at_node o old
nodes_same None new old k s = refl
nodes_same (Some x) new old k s = k x s

-- ---- fields

fields_same : (f : Frame) (o p : Object) (j k : Option ℕ) → j ≡ k → ((n : ℕ) → k ≡ Some n → slice_get p.fields n ≡ slice_get o.fields n) → get_field f p j ≡ get_field f o k
fields_same f o p j None e same = ap (get_field f p) e
fields_same f o p j (Some n) e same = ap (get_field f p) e ∙ ap (get_value f) (same n refl)

sets_same : (f : Frame) (a : Address) (v : Value) (o p : Object) (j k : Option ℕ) → j ≡ k → ((n : ℕ) → k ≡ Some n → slice_get p.fields n ≡ slice_get o.fields n) → put_field f a p v j ≡ put_field f a o v k
sets_same f a v o p j None e same = ap (put_field f a p v) e
sets_same f a v o p j (Some n) e same = ap (put_field f a p v) e ∙ ap (put_value f a n v) (same n refl)

if_same : (b c d : Bool) (x : Move) → (c ≡ true → d ≡ true) → NotStuck (if b && c then x else Stuck lack.Object) → (if b && d then x else Stuck lack.Object) ≡ (if b && c then x else Stuck lack.Object)
if_same true true d x h s = ap (λ (e : Bool). if true && e then x else Stuck lack.Object) (h refl)
if_same true false d x h s = absurd s
if_same false c d x h s = refl

module _ (core : CoreData) (h h2 : ObjectMap) (i n n2 : ℕ) where
  abbrev old : Around
  old = record { objects = h; actor = i; actors = n }

  abbrev new : Around
  new = record { objects = h2; actor = i; actors = n2 }

  -- What a task sees is kept for it.
  pub record Kept (stack : List Value) (t : Task) : Type 0 where
    pub classes : (a : Address) (e : ℕ) → class_at h a ≡ Some e → class_at h2 a ≡ Some e
    pub fields : (x : Access) → touch core h stack t ≡ Some x → field_at h2 x.address x.field ≡ field_at h x.address x.field
    pub made : made_by h2 i ≡ made_by h i
    pub more : (j : ℕ) → nat_lt j n ≡ true → nat_lt j n2 ≡ true
    pub spawn : IsSpawn t → n2 ≡ n

  module _ (classes : (a : Address) (e : ℕ) → class_at h a ≡ Some e → class_at h2 a ≡ Some e) where
    same_entity : (a : Address) (o p : Object) → get h a ≡ Some o → get h2 a ≡ Some p → p.entity ≡ o.entity
    same_entity a o p e g = same_Some p.entity o.entity (sym (ap class_in g) ∙ classes a o.entity (ap class_in e))

    still_there : (a : Address) (o : Object) → get h a ≡ Some o → get h2 a ≡ None → ⊥
    still_there a o e g = none-some o.entity (sym (ap class_in g) ∙ classes a o.entity (ap class_in e))

    object_read : (name : ℕ) (a : Address) (f : Frame) (p q : Option Object) → get h a ≡ p → get h2 a ≡ q
        → ((o : Object) (j : ℕ) → p ≡ Some o → field_named core o.entity name ≡ Some j → field_in q j ≡ field_in p j)
        → NotStuck (get_of core f name p) → get_of core f name q ≡ get_of core f name p
    object_read name a f None q e g k s = absurd s
    object_read name a f (Some o) None e g k s = absurd (still_there a o e g)
    object_read name a f (Some o) (Some p) e g k s = fields_same f o p _ _ (ap (λ (z : ℕ). field_named core z name) (same_entity a o p e g)) (λ j is. k o j refl is)

    object_set : (name : ℕ) (a : Address) (v : Value) (f : Frame) (p q : Option Object) → get h a ≡ p → get h2 a ≡ q
        → ((o : Object) (j : ℕ) → p ≡ Some o → field_named core o.entity name ≡ Some j → field_in q j ≡ field_in p j)
        → NotStuck (put_of core f name a v p) → put_of core f name a v q ≡ put_of core f name a v p
    object_set name a v f None q e g k s = absurd s
    object_set name a v f (Some o) None e g k s = absurd (still_there a o e g)
    object_set name a v f (Some o) (Some p) e g k s = sets_same f a v o p _ _ (ap (λ (z : ℕ). field_named core z name) (same_entity a o p e g)) (λ j is. k o j refl is)

  -- The field of an object that a task touches.
  touched_kept : (t : Task) (name : ℕ) (w : Bool) (a : Address) (below : List Value) → Kept (At a ∷ below) t → touched_name core t ≡ Some (name, w)
      → (o : Object) (j : ℕ) → get h a ≡ Some o → field_named core o.entity name ≡ Some j → field_in (get h2 a) j ≡ field_in (get h a) j
  touched_kept t name w a below kept is o j e q =
      kept.fields (record { address = a; field = j; write = w })
      (ap (λ (z : Option (ℕ × Bool)). z >>= (λ n. touch_by core h n (Some (At a)))) is
      ∙ ap (λ (z : Option Object). class_in z >>= (λ e. field_named core e name >>= (λ i. Some (record { address = a; field = i; write = w })))) e
      ∙ ap (λ (z : Option ℕ). z >>= (λ i. Some (record { address = a; field = i; write = w }))) q)

  -- ---- reads

  from_same : (k name : ℕ) (v : Value) (below : List Value) (f : Frame) → Kept (v ∷ below) (task.Get k) → touched_name core (task.Get k) ≡ Some (name, false) → NotStuck (get_from core old name v f) → get_from core new name v f ≡ get_from core old name v f
  from_same k name (At a) below f kept is s = object_read kept.classes name a f (get h a) (get h2 a) refl refl (λ o j e q. touched_kept (task.Get k) name false a below kept is o j e q) s
  from_same k name v below f kept is s = refl

  get_top : (k name : ℕ) (vs : List Value) (f : Frame) → Kept vs (task.Get k) → touched_name core (task.Get k) ≡ Some (name, false) → NotStuck (with_top f vs (get_from core old name)) → with_top f vs (get_from core new name) ≡ with_top f vs (get_from core old name)
  get_top k name [] f kept is s = refl
  get_top k name (v ∷ vs) f kept is s = from_same k name v vs (with_stack f vs) kept is s

  get_same : (k : ℕ) (f : Frame) (x : Node) → slice_get core.nodes k ≡ Some x → (kind : NodeKind) → x.kind ≡ kind → Kept f.stack (task.Get k) → NotStuck (get_task core old f kind) → get_task core new f kind ≡ get_task core old f kind
  get_same k f x e (node.Field name) q kept s =
      get_top k name f.stack f kept (ap (λ (z : Option Node). z >>= (λ x. field_read x.kind >>= (λ name. Some (name, false)))) e ∙ ap (λ (z : NodeKind). field_read z >>= (λ name. Some (name, false))) q) s
  get_same k f x e kind q kept s = refl

  get_node : (k : ℕ) (f : Frame) (o : Option Node) → slice_get core.nodes k ≡ o → Kept f.stack (task.Get k) → NotStuck (at_node o (λ x. get_task core old f x.kind)) → at_node o (λ x. get_task core new f x.kind) ≡ at_node o (λ x. get_task core old f x.kind)
  get_node k f None e kept s = refl
  get_node k f (Some x) e kept s = get_same k f x e x.kind refl kept s

  -- ---- writes

  into_same : (k name : ℕ) (o v : Value) (below : List Value) (f : Frame) → Kept (o ∷ below) (task.Put k) → touched_name core (task.Put k) ≡ Some (name, true) → NotStuck (put_into core old name o v f) → put_into core new name o v f ≡ put_into core old name o v f
  into_same k name (At a) v below f kept is s = object_set kept.classes name a v f (get h a) (get h2 a) refl refl (λ o j e q. touched_kept (task.Put k) name true a below kept is o j e q) s
  into_same k name o v below f kept is s = refl

  put_top : (k name : ℕ) (vs : List Value) (f : Frame) → Kept vs (task.Put k) → touched_name core (task.Put k) ≡ Some (name, true) → NotStuck (with_top f vs (λ o g. pop g (put_into core old name o)))
      → with_top f vs (λ o g. pop g (put_into core new name o)) ≡ with_top f vs (λ o g. pop g (put_into core old name o))
  put_top k name [] f kept is s = refl
  put_top k name (o ∷ vs) f kept is s = top_same (with_stack f vs) vs (put_into core new name o) (put_into core old name o) (λ v us s2. into_same k name o v vs (with_stack f us) kept is s2) s

  put_same : (k : ℕ) (f : Frame) (x : Node) → slice_get core.nodes k ≡ Some x → (kind : NodeKind) → x.kind ≡ kind → Kept f.stack (task.Put k) → NotStuck (put_task core old f kind) → put_task core new f kind ≡ put_task core old f kind
  put_same k f x e (node.SetField name) q kept s =
      put_top k name f.stack f kept (ap (λ (z : Option Node). z >>= (λ x. field_written x.kind >>= (λ name. Some (name, true)))) e ∙ ap (λ (z : NodeKind). field_written z >>= (λ name. Some (name, true))) q) s
  put_same k f x e kind q kept s = refl

  put_node : (k : ℕ) (f : Frame) (o : Option Node) → slice_get core.nodes k ≡ o → Kept f.stack (task.Put k) → NotStuck (at_node o (λ x. put_task core old f x.kind)) → at_node o (λ x. put_task core new f x.kind) ≡ at_node o (λ x. put_task core old f x.kind)
  put_node k f None e kept s = refl
  put_node k f (Some x) e kept s = put_same k f x e x.kind refl kept s

  -- ---- new objects

  begin_same : made_by h2 i ≡ made_by h i → (m : ℕ) (x : Method) (vs : List Value) (f : Frame) (b : Option ℕ) → begin_new core new m x vs f b ≡ begin_new core old m x vs f b
  begin_same made m x vs f None = refl
  begin_same made m x vs f (Some b) = ap (λ (s : ℕ). Makes (record { maker = i; serial = s }) (blank_object core x.entity) (first_frame m x (At (record { maker = i; serial = s })) vs b) f) made

  make_same : made_by h2 i ≡ made_by h i → (m : ℕ) (vs : List Value) (f : Frame) (p : Option Method) → make_of core new m vs f p ≡ make_of core old m vs f p
  make_same made m vs f None = refl
  make_same made m vs f (Some x) = ap (counted x vs) (begin_same made m x vs f x.body)

  make_kind : made_by h2 i ≡ made_by h i → (f : Frame) (cs : List ℕ) (kind : NodeKind) → NotStuck (make_task core old f cs kind) → make_task core new f cs kind ≡ make_task core old f cs kind
  make_kind made f cs (node.New m) s = popped_same f (popped (length cs) f.stack []) _ _ (λ vs g s2. make_same made m vs g (slice_get core.methods m)) s
  make_kind made f cs kind s = refl

  -- ---- new actors

  spawn_same : n2 ≡ n → (m : ℕ) (vs : List Value) (f : Frame) (p : Option Method) → spawn_of core new m vs f p ≡ spawn_of core old m vs f p
  spawn_same e m vs f None = refl
  spawn_same e m vs f (Some x) = ap (λ (k : ℕ). spawn_of core (record { objects = h; actor = i; actors = k }) m vs f (Some x)) e

  spawn_kind : n2 ≡ n → (f : Frame) (cs : List ℕ) (kind : NodeKind) → NotStuck (spawn_task core old f cs kind) → spawn_task core new f cs kind ≡ spawn_task core old f cs kind
  spawn_kind e f cs (node.Spawn m) s = popped_same f (popped (length cs) f.stack []) _ _ (λ vs g s2. spawn_same e m vs g (slice_get core.methods m)) s
  spawn_kind e f cs kind s = refl

  -- ---- calls and messages

  module _ (classes : (a : Address) (e : ℕ) → class_at h a ≡ Some e → class_at h2 a ≡ Some e) (more : (j : ℕ) → nat_lt j n ≡ true → nat_lt j n2 ≡ true) where
    entity_same : (v : Value) (e : ℕ) → value_entity h v ≡ Some e → value_entity h2 v ≡ Some e
    entity_same (Num k) e is = is
    entity_same (Truth b) e is = is
    entity_same (Text t) e is = is
    entity_same (Prim k) e is = is
    entity_same (At a) e is = classes a e is

    send_same : (m : ℕ) (x : Method) (vs : List Value) (f : Frame) (v : Value) → NotStuck (send old m x vs f v) → send new m x vs f v ≡ send old m x vs f v
    send_same m x vs f (At a) s = if_same (nat_eq a.serial 0) (nat_lt a.maker n) (nat_lt a.maker n2) _ (more a.maker) s
    send_same m x vs f v s = refl

    kind_same : (m : ℕ) (x : Method) (v : Value) (vs : List Value) (f : Frame) (k : MethodKind) → NotStuck (invoke_kind old m x v vs f k) → invoke_kind new m x v vs f k ≡ invoke_kind old m x v vs f k
    kind_same m x v vs f method.Fun s = refl
    kind_same m x v vs f method.Be s = send_same m x vs f v s
    kind_same m x v vs f k s = refl

    found_same : (m : ℕ) (v : Value) (vs : List Value) (f : Frame) (p : Option Method) → NotStuck (invoke_found old m v vs f p) → invoke_found new m v vs f p ≡ invoke_found old m v vs f p
    found_same m v vs f None s = refl
    found_same m v vs f (Some x) s = kind_same m x v vs f x.kind s

    method_same : (name : ℕ) (v : Value) (vs : List Value) (f : Frame) (p : Option ℕ) → NotStuck (invoke_method core old name v vs f p) → invoke_method core new name v vs f p ≡ invoke_method core old name v vs f p
    method_same name v vs f None s = refl
    method_same name v vs f (Some m) s = found_same m v vs f (slice_get core.methods m) s

    on_same : (name : ℕ) (v : Value) (vs : List Value) (f : Frame) (p q : Option ℕ) → ((e : ℕ) → p ≡ Some e → q ≡ Some e) → NotStuck (invoke_on core old name v vs f p) → invoke_on core new name v vs f q ≡ invoke_on core old name v vs f p
    on_same name v vs f None q k s = absurd s
    on_same name v vs f (Some e) q k s = ap (invoke_on core new name v vs f) (k e refl) ∙ method_same name v vs f (method_named core e name) s

    invoke_kinds : (f : Frame) (cs : List ℕ) (kind : NodeKind) → NotStuck (invoke_task core old f cs kind) → invoke_task core new f cs kind ≡ invoke_task core old f cs kind
    invoke_kinds f cs (node.Call name) s =
        let on = λ (a : Around) (v : Value) (vs : List Value) (g : Frame). invoke_on core a name v vs g (value_entity a.objects v) in
        top_same f f.stack (λ v g. pop_arguments g (length cs - 1) (on new v)) (λ v g. pop_arguments g (length cs - 1) (on old v)) (λ v us s2. popped_same (with_stack f us) (popped (length cs - 1) us []) (on new v) (on old v) (λ vs g s3. on_same name v vs g (value_entity h v) (value_entity h2 v) (λ e. entity_same v e) s3) s2) s
    invoke_kinds f cs kind s = refl

  -- ---- every task

  pub stable : (f : Frame) (t : Task) → Kept f.stack t → NotStuck (task_move core old f t) → task_move core new f t ≡ task_move core old f t
  stable f (task.Get k) kept s = get_node k f (slice_get core.nodes k) refl kept s
  stable f (task.Put k) kept s = put_node k f (slice_get core.nodes k) refl kept s
  stable f (task.Make k) kept s = nodes_same (slice_get core.nodes k) _ _ (λ x s2. make_kind kept.made f x.children x.kind s2) s
  stable f (task.Spawn k) kept s = nodes_same (slice_get core.nodes k) _ _ (λ x s2. spawn_kind (kept.spawn tt) f x.children x.kind s2) s
  stable f (task.Invoke k) kept s = nodes_same (slice_get core.nodes k) _ _ (λ x s2. invoke_kinds kept.classes kept.more f x.children x.kind s2) s
  stable f t kept s = blind_same core old new f t tt

-- ---- a task that makes an actor

if_ahead : (b : Bool) (x : Move) (l : Move) → (NotStuck x → by_move x ≡ ahead.Spawn) → (NotStuck l → ⊥) → NotStuck (if b then x else l) → by_move (if b then x else l) ≡ ahead.Spawn
if_ahead true x l k never s = k s
if_ahead false x l k never s = absurd (never s)

abbrev SpawnOrStuck : Move → Type 0
SpawnOrStuck m = NotStuck m → by_move m ≡ ahead.Spawn

spawn_of_ahead : (core : CoreData) (a : Around) (m : ℕ) (vs : List Value) (f : Frame) (p : Option Method) → SpawnOrStuck (spawn_of core a m vs f p)
spawn_of_ahead core a m vs f None s = absurd s
spawn_of_ahead core a m vs f (Some x) s = if_ahead (nat_eq (length vs) (length x.params)) _ _ (λ z. refl) (λ z. z) s

spawn_kind_ahead : (core : CoreData) (a : Around) (f : Frame) (cs : List ℕ) (kind : NodeKind) → SpawnOrStuck (spawn_task core a f cs kind)
spawn_kind_ahead core a f cs (node.Spawn m) s = arguments_all SpawnOrStuck f (popped (length cs) f.stack []) _ (λ vs g. spawn_of_ahead core a m vs g (slice_get core.methods m)) (λ z. absurd z) s
spawn_kind_ahead core a f cs kind s = absurd s

pub spawn_ahead : (core : CoreData) (a : Around) (f : Frame) (t : Task) → IsSpawn t → NotStuck (task_move core a f t) → by_move (task_move core a f t) ≡ ahead.Spawn
spawn_ahead core a f (task.Spawn k) is s = node_all SpawnOrStuck (slice_get core.nodes k) _ (λ x. spawn_kind_ahead core a f x.children x.kind) (λ z. absurd z) s
spawn_ahead core a f t is s = absurd is
