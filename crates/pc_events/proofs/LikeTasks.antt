-- Every task makes like moves in like frames among like objects.
use Rattle.std.specs.{Prelude.{◌≡◌, ◌<◌, ℕ, suc, ◌-◌, ◌&&◌, Bool, true, false, if◌then◌else◌, nat_eq, nat_lt, List, [], ◌∷◌, ◌++◌, map, length, replicate, Option, Some, None, slice_get, refl}, FinMap.get}
use Rattle.std.proofs.{Common.{ap, sym, subst, ◌∙◌}, lemmas.Option.same_Some, lemmas.Bool.{and_parts, lt-ltb}}
use Rattle.pc_base.proofs.Gets.{get_behind}
use Rattle.pc_heap.specs.{Objects.{ObjectMap, class_at, made_by, next_address, Object}, Parts.{class_in, field_in}, Fields.field_at, declared.value.Address.Address, declared.value.Value.Value, declared.value.Value.TheVariants.{Num, Truth, Text, Prim, At}}
use Rattle.pc_core.specs.{CoreData.{field_named, method_named, CoreData}, declared.declarations.Method.Method, declared.declarations.MethodKind.MethodKind, declared.nodes.Node.Node, declared.nodes.NodeKind.NodeKind, Kinds.{field_read, field_written}}
use Rattle.pc_base.specs.Lists.{◌>>=◌}
use Rattle.pc_core.specs.declared.declarations.MethodKind.TheVariants as method
use Rattle.pc_core.specs.declared.nodes.NodeKind.TheVariants as node
use Rattle.pc_semantics.specs.{declared.access.Access.Access, declared.frames.Frame.Frame, declared.frames.Task.Task, Configurations.{blank_object, own_address, Around, Move, Stuck, with_stack, none, pop, value_entity, first_frame}, Parts.{number_of_fields, with_top, get_value, get_field, get_of, get_from, put_value, put_field, put_of, put_into, begin_new, make_of, spawn_of, enter, send, push_text, invoke_found, invoke_method, invoke_on, at_node}, Calls.{get_task, put_task, counted, make_task, spawn_task, invoke_kind, string_of, is_string, text_of, invoke_task}, Step.task_move, Safety.touched_name}
use Rattle.pc_semantics.specs.declared.frames.Task.TheVariants as task
use Rattle.pc_semantics.specs.declared.outcome.Lack.TheVariants as lack
use Rattle.pc_events.proofs.{Right.{touch, touch_by}, Like.{AddressLike, Like, Likes, SlotsLike, FrameLike, FoundLike, ObjectLike, empty_slots, likes_length, first_slots_like, frame_more, MoveLike}, LikeBasic.{left_stuck, stack_like, pushed_like, top_like, pop_like, arguments_like, nodes_like, held_like, blind_like}}

module _ (core : CoreData) (names : List ℕ) (h h2 : ObjectMap) (i i2 n n2 : ℕ) where
  abbrev one : Around
  one = record { objects = h; actor = i; actors = n }

  abbrev two : Around
  two = record { objects = h2; actor = i2; actors = n2 }

  abbrev M : Move → Move → Type 0
  M x y = MoveLike names n x y

  pub record AroundLike (stack : List Value) (t : Task) : Type 0 where
    pub actor : slice_get names i2 ≡ Some i
    pub count : n2 ≡ length names
    pub inject : (j k a : ℕ) → slice_get names j ≡ Some a → slice_get names k ≡ Some a → j ≡ k
    pub within : (j a : ℕ) → slice_get names j ≡ Some a → a < n
    pub classes : (a b : Address) → AddressLike names a b → (e : ℕ) → class_at h2 b ≡ Some e → class_at h a ≡ Some e
    pub made : made_by h i ≡ made_by h2 i2
    pub fields : (x : Access) → touch core h2 stack t ≡ Some x → (a : Address) → AddressLike names a x.address → FoundLike names (field_at h a x.field) (field_at h2 x.address x.field)

  -- ---- fields

  value_like : (f g : Frame) → FrameLike names f g → (o p : Option (Option Value)) → FoundLike names o p → M (get_value f o) (get_value g p)
  value_like f g k None p l = tt
  value_like f g k (Some None) p l = tt
  value_like f g k (Some (Some v)) None l = absurd l
  value_like f g k (Some (Some v)) (Some None) l = absurd l
  value_like f g k (Some (Some v)) (Some (Some w)) l = pushed_like names n f g v w k l

  set_like : (f g : Frame) → FrameLike names f g → (a b : Address) → AddressLike names a b → (j : ℕ) (v w : Value) → Like names v w → (o p : Option (Option Value)) → FoundLike names o p → M (put_value f a j v o) (put_value g b j w p)
  set_like f g k a b l j v w m None p q = tt
  set_like f g k a b l j v w m (Some o) None q = absurd q
  set_like f g k a b l j v w m (Some o) (Some p) q = (l, refl, m, pushed_like names n f g _ _ k (held_like names n (Some o) (Some p) q))

  field_like : (f g : Frame) → FrameLike names f g → (o p : Object) (q : Option ℕ) → ((j : ℕ) → q ≡ Some j → FoundLike names (slice_get o.fields j) (slice_get p.fields j)) → M (get_field f o q) (get_field g p q)
  field_like f g k o p None h = tt
  field_like f g k o p (Some j) h = value_like f g k (slice_get o.fields j) (slice_get p.fields j) (h j refl)

  set_field : (f g : Frame) → FrameLike names f g → (a b : Address) → AddressLike names a b → (v w : Value) → Like names v w → (o p : Object) (q : Option ℕ) → ((j : ℕ) → q ≡ Some j → FoundLike names (slice_get o.fields j) (slice_get p.fields j)) → M (put_field f a o v q) (put_field g b p w q)
  set_field f g k a b l v w m o p None h = tt
  set_field f g k a b l v w m o p (Some j) h = set_like f g k a b l j v w m (slice_get o.fields j) (slice_get p.fields j) (h j refl)

  module _ (t : Task) (name : ℕ) (wr : Bool) (is : touched_name core t ≡ Some (name, wr)) where
    touched : (b : Address) (below : List Value) (p : Object) (j : ℕ) → get h2 b ≡ Some p → field_named core p.entity name ≡ Some j → touch core h2 (At b ∷ below) t ≡ Some (record { address = b; field = j; write = wr })
    touched b below p j e q =
        ap (λ (z : Option (ℕ × Bool)). z >>= (λ n. touch_by core h2 n (Some (At b)))) is
        ∙ ap (λ (z : Option Object). class_in z >>= (λ e. field_named core e name >>= (λ i. Some (record { address = b; field = i; write = wr })))) e
        ∙ ap (λ (z : Option ℕ). z >>= (λ i. Some (record { address = b; field = i; write = wr }))) q

    module _ (a b : Address) (below : List Value) (l : AddressLike names a b) (r : AroundLike (At b ∷ below) t) where
      entities : (o p : Object) → get h a ≡ Some o → get h2 b ≡ Some p → o.entity ≡ p.entity
      entities o p e q = same_Some o.entity p.entity (sym (ap class_in e) ∙ r.classes a b l p.entity (ap class_in q))

      found : (o p : Object) → get h a ≡ Some o → get h2 b ≡ Some p → (j : ℕ) → field_named core p.entity name ≡ Some j → FoundLike names (slice_get o.fields j) (slice_get p.fields j)
      found o p e q j s =
          subst (λ (z : Option Object). FoundLike names (slice_get o.fields j) (field_in z j)) q
          (subst (λ (z : Option Object). FoundLike names (field_in z j) (field_at h2 b j)) e (r.fields (record { address = b; field = j; write = wr }) (touched b below p j q s) a l))

      read_object : (f g : Frame) → FrameLike names f g → (o p : Option Object) → get h a ≡ o → get h2 b ≡ p → M (get_of core f name o) (get_of core g name p)
      read_object f g k None p e q = tt
      read_object f g k (Some o) None e q = left_stuck names n _ _
      read_object f g k (Some o) (Some p) e q =
          subst (λ (z : ℕ). M (get_field f o (field_named core z name)) (get_field g p (field_named core p.entity name))) (sym (entities o p e q))
          (field_like f g k o p (field_named core p.entity name) (λ j s. found o p e q j s))

      set_object : (f g : Frame) → FrameLike names f g → (v w : Value) → Like names v w → (o p : Option Object) → get h a ≡ o → get h2 b ≡ p → M (put_of core f name a v o) (put_of core g name b w p)
      set_object f g k v w m None p e q = tt
      set_object f g k v w m (Some o) None e q = left_stuck names n _ _
      set_object f g k v w m (Some o) (Some p) e q =
          subst (λ (z : ℕ). M (put_field f a o v (field_named core z name)) (put_field g b p w (field_named core p.entity name))) (sym (entities o p e q))
          (set_field f g k a b l v w m o p (field_named core p.entity name) (λ j s. found o p e q j s))

    from_like : (v w : Value) (below : List Value) (f g : Frame) → Like names v w → AroundLike (w ∷ below) t → FrameLike names f g → M (get_from core one name v f) (get_from core two name w g)
    from_like (At a) (At b) below f g l r k = read_object a b below l r f g k (get h a) (get h2 b) refl refl
    from_like (At a) (Num x) below f g l r k = absurd l
    from_like (At a) (Truth x) below f g l r k = absurd l
    from_like (At a) (Text x) below f g l r k = absurd l
    from_like (At a) (Prim x) below f g l r k = absurd l
    from_like v w below f g l r k = tt

    into_like : (v w u x : Value) (below : List Value) (f g : Frame) → Like names v w → Like names u x → AroundLike (w ∷ below) t → FrameLike names f g → M (put_into core one name v u f) (put_into core two name w x g)
    into_like (At a) (At b) u x below f g l m r k = set_object a b below l r f g k u x m (get h a) (get h2 b) refl refl
    into_like (At a) (Num y) u x below f g l m r k = absurd l
    into_like (At a) (Truth y) u x below f g l m r k = absurd l
    into_like (At a) (Text y) u x below f g l m r k = absurd l
    into_like (At a) (Prim y) u x below f g l m r k = absurd l
    into_like v w u x below f g l m r k = tt

    get_top : (vs ws : List Value) (f g : Frame) → Likes names vs ws → AroundLike ws t → FrameLike names f g → M (with_top f vs (get_from core one name)) (with_top g ws (get_from core two name))
    get_top [] ws f g l r k = tt
    get_top (v ∷ vs) [] f g l r k = absurd l
    get_top (v ∷ vs) (w ∷ ws) f g l r k = from_like v w ws (with_stack f vs) (with_stack g ws) l.0 r (stack_like names n f g vs ws k l.1)

    put_top : (vs ws : List Value) (f g : Frame) → Likes names vs ws → AroundLike ws t → FrameLike names f g → M (with_top f vs (λ o g. pop g (put_into core one name o))) (with_top g ws (λ o g. pop g (put_into core two name o)))
    put_top [] ws f g l r k = tt
    put_top (v ∷ vs) [] f g l r k = absurd l
    put_top (v ∷ vs) (w ∷ ws) f g l r k =
        top_like names n (with_stack f vs) (with_stack g ws) vs ws (stack_like names n f g vs ws k l.1) l.1 (put_into core one name v) (put_into core two name w) (λ u x us xs m p q. into_like v w u x ws _ _ l.0 m r q)

  get_like : (k : ℕ) (f g : Frame) (x : Node) → slice_get core.nodes k ≡ Some x → (kind : NodeKind) → x.kind ≡ kind → AroundLike g.stack (task.Get k) → FrameLike names f g → M (get_task core one f kind) (get_task core two g kind)
  get_like k f g x e (node.Field name) q r l =
      get_top (task.Get k) name false (ap (λ (z : Option Node). z >>= (λ x. field_read x.kind >>= (λ name. Some (name, false)))) e ∙ ap (λ (z : NodeKind). field_read z >>= (λ name. Some (name, false))) q) f.stack g.stack f g l.stack r l
  get_like k f g x e kind q r l = tt

  put_like : (k : ℕ) (f g : Frame) (x : Node) → slice_get core.nodes k ≡ Some x → (kind : NodeKind) → x.kind ≡ kind → AroundLike g.stack (task.Put k) → FrameLike names f g → M (put_task core one f kind) (put_task core two g kind)
  put_like k f g x e (node.SetField name) q r l =
      put_top (task.Put k) name true (ap (λ (z : Option Node). z >>= (λ x. field_written x.kind >>= (λ name. Some (name, true)))) e ∙ ap (λ (z : NodeKind). field_written z >>= (λ name. Some (name, true))) q) f.stack g.stack f g l.stack r l
  put_like k f g x e kind q r l = tt

  get_node : (k : ℕ) (f g : Frame) (o : Option Node) → slice_get core.nodes k ≡ o → AroundLike g.stack (task.Get k) → FrameLike names f g → M (at_node o (λ x. get_task core one f x.kind)) (at_node o (λ x. get_task core two g x.kind))
  get_node k f g None e r l = tt
  get_node k f g (Some x) e r l = get_like k f g x e x.kind refl r l

  put_node : (k : ℕ) (f g : Frame) (o : Option Node) → slice_get core.nodes k ≡ o → AroundLike g.stack (task.Put k) → FrameLike names f g → M (at_node o (λ x. put_task core one f x.kind)) (at_node o (λ x. put_task core two g x.kind))
  put_node k f g None e r l = tt
  put_node k f g (Some x) e r l = put_like k f g x e x.kind refl r l

  blank_like : (e : ℕ) → ObjectLike names (blank_object core e) (blank_object core e)
  blank_like e = record { entity = refl; fields = empty_slots names (number_of_fields (slice_get core.entities e)) }

  -- ---- counting

  if_like : (b c : Bool) (x y u v : Move) → b ≡ c → M x u → M y v → M (if b then x else y) (if c then u else v)
  if_like true c x y u v e p q = subst (λ (z : Bool). M x (if z then u else v)) e p
  if_like false c x y u v e p q = subst (λ (z : Bool). M y (if z then u else v)) e q

  counted_like : (x : Method) (vs ws : List Value) (u v : Move) → Likes names vs ws → M u v → M (counted x vs u) (counted x ws v)
  counted_like x vs ws u v l m = if_like _ _ u (Stuck lack.Method) v (Stuck lack.Method) (ap (λ (z : ℕ). nat_eq z (length x.params)) (likes_length names vs ws l)) m tt

  pub first_frame_like : (m : ℕ) (x : Method) (v w : Value) (vs ws : List Value) (body : ℕ) → Like names v w → Likes names vs ws → FrameLike names (first_frame m x v vs body) (first_frame m x w ws body)
  first_frame_like m x v w vs ws body l k = record {
    method = refl;
    slots =
        subst (λ (z : ℕ). SlotsLike names (Some v ∷ map Some vs ++ replicate (x.slots - suc (length vs)) None) (Some w ∷ map Some ws ++ replicate (x.slots - suc z) None)) (likes_length names vs ws k)
        (first_slots_like names (x.slots - suc (length vs)) v w vs ws l k);
    stack = tt;
    tasks = refl;
  }

  module _ (actor : slice_get names i2 ≡ Some i) where
    -- ---- new objects

    begin_like : made_by h i ≡ made_by h2 i2 → (m : ℕ) (x : Method) (vs ws : List Value) (f g : Frame) (b : Option ℕ) → Likes names vs ws → FrameLike names f g → M (begin_new core one m x vs f b) (begin_new core two m x ws g b)
    begin_like made m x vs ws f g None l k = tt
    begin_like made m x vs ws f g (Some b) l k =
        let a : AddressLike names (next_address h i) (next_address h2 i2) = record { maker = actor; serial = made } in
        (a, blank_like x.entity, first_frame_like m x (At (next_address h i)) (At (next_address h2 i2)) vs ws b a l, k)

    make_of_like : made_by h i ≡ made_by h2 i2 → (m : ℕ) (vs ws : List Value) (f g : Frame) (o : Option Method) → Likes names vs ws → FrameLike names f g → M (make_of core one m vs f o) (make_of core two m ws g o)
    make_of_like made m vs ws f g None l k = tt
    make_of_like made m vs ws f g (Some x) l k = counted_like x vs ws _ _ l (begin_like made m x vs ws f g x.body l k)

    make_like : made_by h i ≡ made_by h2 i2 → (f g : Frame) (cs : List ℕ) (kind : NodeKind) → FrameLike names f g → M (make_task core one f cs kind) (make_task core two g cs kind)
    make_like made f g cs (node.New m) k = arguments_like names n (length cs) f g k _ _ (λ vs ws a b l q. make_of_like made m vs ws a b (slice_get core.methods m) l q)
    make_like made f g cs kind k = tt

    -- ---- new actors

    spawned_like : n2 ≡ length names → (m : ℕ) (vs ws : List Value) (f g : Frame) (o : Option Method) → Likes names vs ws → FrameLike names f g → M (spawn_of core one m vs f o) (spawn_of core two m ws g o)
    spawned_like e m vs ws f g None l k = tt
    spawned_like e m vs ws f g (Some x) l k =
        counted_like x vs ws _ _ l (
          blank_like x.entity,
          record { method = refl; arguments = l },
          pushed_like (names ++ n ∷ []) n f g (At (own_address n)) (At (own_address n2)) (frame_more names (n ∷ []) f g k) (record { maker = ap (slice_get (names ++ n ∷ [])) e ∙ get_behind names n []; serial = refl }),
        )

    spawn_like : n2 ≡ length names → (f g : Frame) (cs : List ℕ) (kind : NodeKind) → FrameLike names f g → M (spawn_task core one f cs kind) (spawn_task core two g cs kind)
    spawn_like e f g cs (node.Spawn m) k = arguments_like names n (length cs) f g k _ _ (λ vs ws a b l q. spawned_like e m vs ws a b (slice_get core.methods m) l q)
    spawn_like e f g cs kind k = tt

  -- ---- calls and messages

  module _ (within : (j a : ℕ) → slice_get names j ≡ Some a → a < n) (classes : (a b : Address) → AddressLike names a b → (e : ℕ) → class_at h2 b ≡ Some e → class_at h a ≡ Some e) where
    sends_like : (b c : Bool) (x y : Move) → (c ≡ true → b ≡ true) → M x y → M (if b then x else Stuck lack.Object) (if c then y else Stuck lack.Object)
    sends_like true true x y e m = m
    sends_like true false x y e m = left_stuck names n x lack.Object
    sends_like false c x y e m = tt

    both_true : (b c : Bool) → b ≡ true → c ≡ true → b && c ≡ true
    both_true b c e f = ap (λ (z : Bool). z && c) e ∙ f

    send_like : (m : ℕ) (x : Method) (vs ws : List Value) (f g : Frame) (v w : Value) → Like names v w → Likes names vs ws → FrameLike names f g → M (send one m x vs f v) (send two m x ws g w)
    send_like m x vs ws f g (At a) (At b) l k q =
        sends_like _ _ _ _
        (λ e. both_true _ _ (ap (λ (z : ℕ). nat_eq z 0) l.serial ∙ (and_parts (nat_eq b.serial 0) (nat_lt b.maker n2) e).0) (lt-ltb a.maker n (within b.maker a.maker l.maker)))
        (counted_like x vs ws _ _ k (l.maker, record { method = refl; arguments = k }, pushed_like names n f g none none q refl))
    send_like m x vs ws f g (At a) (Num y) l k q = absurd l
    send_like m x vs ws f g (At a) (Truth y) l k q = absurd l
    send_like m x vs ws f g (At a) (Text y) l k q = absurd l
    send_like m x vs ws f g (At a) (Prim y) l k q = absurd l
    send_like m x vs ws f g v w l k q = tt

    enter_like : (m : ℕ) (x : Method) (vs ws : List Value) (f g : Frame) (v w : Value) (b : Option ℕ) → Like names v w → Likes names vs ws → FrameLike names f g → M (enter m x v vs f b) (enter m x w ws g b)
    enter_like m x vs ws f g v w None l k q = tt
    enter_like m x vs ws f g v w (Some b) l k q = (first_frame_like m x v w vs ws b l k, q)

    kind_like : (m : ℕ) (x : Method) (vs ws : List Value) (f g : Frame) (v w : Value) (kind : MethodKind) → Like names v w → Likes names vs ws → FrameLike names f g → M (invoke_kind one m x v vs f kind) (invoke_kind two m x w ws g kind)
    kind_like m x vs ws f g v w method.Fun l k q = counted_like x vs ws _ _ k (enter_like m x vs ws f g v w x.body l k q)
    kind_like m x vs ws f g v w method.Be l k q = send_like m x vs ws f g v w l k q
    kind_like m x vs ws f g v w kind l k q = tt

    found_like : (m : ℕ) (vs ws : List Value) (f g : Frame) (v w : Value) (o : Option Method) → Like names v w → Likes names vs ws → FrameLike names f g → M (invoke_found one m v vs f o) (invoke_found two m w ws g o)
    found_like m vs ws f g v w None l k q = tt
    found_like m vs ws f g v w (Some x) l k q = kind_like m x vs ws f g v w x.kind l k q

    texts_same : (v w : Value) → Like names v w → text_of v ≡ text_of w
    texts_same (Num x) w l = ap text_of (sym l)
    texts_same (Truth x) w l = ap text_of (sym l)
    texts_same (Text x) w l = ap text_of (sym l)
    texts_same (Prim x) w l = ap text_of (sym l)
    texts_same (At a) (At b) l = refl
    texts_same (At a) (Num y) l = absurd l
    texts_same (At a) (Truth y) l = absurd l
    texts_same (At a) (Text y) l = absurd l
    texts_same (At a) (Prim y) l = absurd l

    is_string_same : (name : ℕ) (vs ws : List Value) → Likes names vs ws → is_string core name vs ≡ is_string core name ws
    is_string_same name [] [] k = refl
    is_string_same name [] (w ∷ ws) k = absurd k
    is_string_same name (v ∷ vs) [] k = absurd k
    is_string_same name (v ∷ vs) (w ∷ ws) k = refl

    push_text_like : (f g : Frame) (o p : Option (List ℕ)) → o ≡ p → FrameLike names f g → M (push_text f o) (push_text g p)
    push_text_like f g None p e k = tt
    push_text_like f g (Some t) p e k = subst (λ (z : Option (List ℕ)). M (push_text f (Some t)) (push_text g z)) e (pushed_like names n f g _ _ k refl)

    string_like : (name : ℕ) (vs ws : List Value) (f g : Frame) (v w : Value) → Like names v w → Likes names vs ws → FrameLike names f g → M (string_of core name v vs f) (string_of core name w ws g)
    string_like name vs ws f g v w l k q = if_like _ _ _ _ _ _ (is_string_same name vs ws k) (push_text_like f g (text_of v) (text_of w) (texts_same v w l) q) tt

    method_like : (name : ℕ) (vs ws : List Value) (f g : Frame) (v w : Value) (o : Option ℕ) → Like names v w → Likes names vs ws → FrameLike names f g → M (invoke_method core one name v vs f o) (invoke_method core two name w ws g o)
    method_like name vs ws f g v w None l k q = string_like name vs ws f g v w l k q
    method_like name vs ws f g v w (Some m) l k q = found_like m vs ws f g v w (slice_get core.methods m) l k q

    entities_like : (v w : Value) → Like names v w → (e : ℕ) → value_entity h2 w ≡ Some e → value_entity h v ≡ Some e
    entities_like (Num x) w l e is = ap (value_entity h2) (sym l) ∙ is
    entities_like (Truth x) w l e is = ap (value_entity h2) (sym l) ∙ is
    entities_like (Text x) w l e is = ap (value_entity h2) (sym l) ∙ is
    entities_like (Prim x) w l e is = ap (value_entity h2) (sym l) ∙ is
    entities_like (At a) (At b) l e is = classes a b l e is
    entities_like (At a) (Num y) l e is = absurd l
    entities_like (At a) (Truth y) l e is = absurd l
    entities_like (At a) (Text y) l e is = absurd l
    entities_like (At a) (Prim y) l e is = absurd l

    on_like : (name : ℕ) (vs ws : List Value) (f g : Frame) (v w : Value) (o p : Option ℕ) → ((e : ℕ) → p ≡ Some e → o ≡ Some e) → Like names v w → Likes names vs ws → FrameLike names f g → M (invoke_on core one name v vs f o) (invoke_on core two name w ws g p)
    on_like name vs ws f g v w o None e l k q = left_stuck names n _ lack.Method
    on_like name vs ws f g v w o (Some x) e l k q =
        subst (λ (z : Option ℕ). M (invoke_on core one name v vs f z) (invoke_on core two name w ws g (Some x))) (sym (e x refl)) (method_like name vs ws f g v w (method_named core x name) l k q)

    invoke_like : (f g : Frame) (cs : List ℕ) (kind : NodeKind) → FrameLike names f g → M (invoke_task core one f cs kind) (invoke_task core two g cs kind)
    invoke_like f g cs (node.Call name) k =
        pop_like names n f g k _ _ (λ v w a b l m. arguments_like names n (length cs - 1) a b m _ _ (λ vs ws c d p q. on_like name vs ws c d v w (value_entity h v) (value_entity h2 w) (λ e. entities_like v w l e) l p q))
    invoke_like f g cs kind k = tt

  -- ---- every task

  pub moves_like : (f g : Frame) (t : Task) → AroundLike g.stack t → FrameLike names f g → M (task_move core one f t) (task_move core two g t)
  moves_like f g (task.Get k) r l = get_node k f g (slice_get core.nodes k) refl r l
  moves_like f g (task.Put k) r l = put_node k f g (slice_get core.nodes k) refl r l
  moves_like f g (task.Make k) r l = nodes_like names n (slice_get core.nodes k) _ _ (λ x. make_like r.actor r.made f g x.children x.kind l)
  moves_like f g (task.Spawn k) r l = nodes_like names n (slice_get core.nodes k) _ _ (λ x. spawn_like r.actor r.count f g x.children x.kind l)
  moves_like f g (task.Invoke k) r l = nodes_like names n (slice_get core.nodes k) _ _ (λ x. invoke_like r.within r.classes f g x.children x.kind l)
  moves_like f g t r l = blind_like names n r.inject core one two f g t tt l
