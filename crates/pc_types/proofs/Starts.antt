-- The configuration in which a program begins is well typed.
use Rattle.std.specs.{Prelude.{◌≡◌, ◌≢◌, ℕ, zero, suc, ◌+◌, ◌<◌, Bool, true, false, cond, not, List, [], ◌∷◌, map, length, Option, Some, None, nat_lt, slice_get, codes, position, refl}, List.position_or_len, Str.bytes_eq, FinMap.{empty, get, insert, get-empty}}
use Rattle.std.proofs.{Common.{inl, inr, ap, sym, subst, ◌∙◌, arith}, lemmas.Option.{same_Some, none-some}, lemmas.Bool.lt-ltb, lemmas.Slice.Eq.bytes_eq-Decides}
use Rattle.pc_heap.specs.{Objects.{address_cmp, ObjectMap, made_by, new_object, with_field, Object}, declared.value.Address.Address, declared.value.Value.Value, declared.value.Value.TheVariants.At}
use Rattle.pc_base.proofs.{Gets.{get_below, get_map}, Bools.false_true}
use Rattle.pc_caps.specs.{Tables.plain, declared.capability.Cap.Cap}
use Rattle.pc_caps.specs.declared.capability.Form.TheVariants as form
use Rattle.pc_tree.specs.declared.kinds.EntityKind.TheVariants as kind
use Rattle.pc_core.specs.{declared.declarations.EntityDef.EntityDef, declared.declarations.FieldInfo.FieldInfo, declared.declarations.ParamInfo.ParamInfo, CoreData.{CoreData, method_named}, Entities.out_field, Formed.Formed}
use Rattle.pc_core.specs.declared.declarations.MethodKind.TheVariants as method
use Rattle.pc_base.specs.Lists.{Differ}
use Rattle.pc_ann.specs.declared.annotation.Ann.{Ann}
use Rattle.pc_rules.specs.Checks.{Checks}
use Rattle.pc_semantics.specs.{declared.actors.Actor.Actor, Configurations.{own_address, main_create, blank_object, environment, environment_address, start_of, start}, Parts.{number_of_entity, number_of_fields}}
use Rattle.pc_types.proofs.{Types.{Finished, OfType, ArgumentsOk}, Typed.{field_type, ObjectOk, PlaceOk, ObjectsOk, ActorOk, WellTyped}, Needs.Needs, Growth.{Extends, class_is, class_kept, finished_kept}, Heaps.{get_after, get_here, put_or_before, fresh_extends, made_here}, Made.{blank_ok, add_objects, own_free, spawn_objects}, Callers.not_print, Declarations.found_is, Needed.needed}

-- ---- the place of a name

place_is : (w : List ℕ) (xs : List (List ℕ)) (e : ℕ) → slice_get xs e ≡ Some w → ((i : ℕ) → i < e → slice_get xs i ≡ Some w → ⊥) → position_or_len (bytes_eq w) xs ≡ e
place_is w [] e at other = absurd (none-some w at)
place_is w (x ∷ xs) zero at other = ap (λ (b : Bool). cond (not b) (1 + position_or_len (bytes_eq w) xs) 0) ((bytes_eq-Decides w x).1 (sym (same_Some x w at)))
place_is w (x ∷ xs) (suc e) at other =
    let rest : position_or_len (bytes_eq w) xs ≡ e = place_is w xs e at (λ i l g. other (suc i) (omega (arith, l)) g) in
    let differs : bytes_eq w x ≡ false = go (bytes_eq w x) refl in
    let here : position_or_len (bytes_eq w) (x ∷ xs) ≡ 1 + position_or_len (bytes_eq w) xs = ap (λ (b : Bool). cond (not b) (1 + position_or_len (bytes_eq w) xs) 0) differs in
    omega (arith, here, rest)
  where
    go : (b : Bool) → bytes_eq w x ≡ b → b ≡ false
    go false h = refl
    go true h = absurd (other 0 (omega arith) (ap Some (sym ((bytes_eq-Decides w x).0 h))))

position_is : (w : List ℕ) (xs : List (List ℕ)) (e : ℕ) → Differ xs → slice_get xs e ≡ Some w → position (bytes_eq w) xs ≡ Some e
position_is w xs e differ at =
    let is : position_or_len (bytes_eq w) xs ≡ e = place_is w xs e at (λ i l g. let same = differ i e w g at in absurd (omega (arith, l, same))) in
    ap (λ (n : ℕ). cond (nat_lt n (length xs)) (Some n) None) is ∙ ap (λ (b : Bool). cond b (Some e) None) (lt-ltb e (length xs) (get_below xs e w at))

module _ (core : CoreData) (formed : Formed core) where
  -- Main and its constructor are found.
  pub main_found : main_create core ≡ Some (formed.main.entity, formed.main.number)
  main_found =
      let m = formed.main in
      let named : number_of_entity core (codes "Main") ≡ Some m.entity = position_is (codes "Main") (map (λ x. x.name) core.entities) m.entity formed.entity_names (get_map (λ x. x.name) core.entities m.entity m.main m.is_entity ∙ ap Some m.name) in
      let word : position (bytes_eq (codes "create")) core.names ≡ Some m.create.name = position_is (codes "create") core.names m.create.name formed.names m.method_name in
      let number : method_named core m.entity m.create.name ≡ Some m.number = found_is core m.entity m.create.name m.number m.main formed m.is_entity (m.create, m.is_method, m.own, refl) (method_named core m.entity m.create.name) refl in
      rw (named, word, number) refl

  -- There are two actors.
  pub two_actors : length (start core).actors ≡ 2
  two_actors = ap (λ (main : Option (ℕ × ℕ)). length (start_of core main).actors) main_found

  -- The environment, with its field.
  pub env_is : environment core ≡ record { entity = 4; fields = Some (At (own_address 0)) ∷ [] }
  env_is = ap (λ (x : Option EntityDef). with_field (new_object 4 (number_of_fields x)) 0 (At (own_address 0))) formed.built_in.env

-- ---- the objects

-- The objects of a program that begins: the stream's, the environment, and Main's.
abbrev pub with_stream : CoreData → ObjectMap
with_stream core = insert empty (own_address 0) (blank_object core 5)

abbrev pub with_environment : CoreData → ObjectMap
with_environment core = insert (with_stream core) environment_address (environment core)

abbrev pub with_main : CoreData → ℕ → ObjectMap
with_main core main = insert (with_environment core) (own_address 1) (blank_object core main)

none_there : (q : Address) (o : Object) → get (empty {X = Object} {R = address_cmp}) q ≡ Some o → ⊥
none_there q o e = none-some o (sym (get-empty address_cmp q) ∙ e)

module _ (core : CoreData) (ann : Ann) (formed : Formed core) (valid : Checks core ann) where
  needs : Needs core ann
  needs = needed core formed ann valid

  -- ---- the stream

  stream_place : (o : Object) → PlaceOk core (insert empty (own_address 0) o) 1 (own_address 0) 5
  stream_place o =
      let more = made_here empty (own_address 0) o (get-empty address_cmp (own_address 0)) in
      record { maker = omega arith; serial = omega (arith, more); first = λ x at actor. refl; stream = λ five. refl }

  stream_ok : ObjectsOk core (with_stream core) 1
  stream_ok =
      let o : Object = blank_object core 5 in
      let h : ObjectMap = with_stream core in
      record {
        each = λ q y at.
            elim (put_or_before empty (own_address 0) o q y at) [
              | inl same ↦ subst (λ (z : Object). ObjectOk core h z × PlaceOk core h 1 q z.entity) (sym same.1) (subst (λ (z : Address). ObjectOk core h o × PlaceOk core h 1 z 5) (sym same.0) (blank_ok core h 5 _ formed.built_in.stream refl, stream_place o))
              | inr before ↦ absurd (none_there q y before)
            ];
        stream = class_is h (own_address 0) o (get_here empty (own_address 0) o);
      }

  -- It has no fields.
  stream_finished : Finished (with_stream core) (At (own_address 0))
  stream_finished =
      let none : blank_object core 5 ≡ new_object 5 0 = ap (λ (x : Option EntityDef). new_object 5 (number_of_fields x)) formed.built_in.stream in
      (blank_object core 5, get_here empty (own_address 0) (blank_object core 5), λ i l. let m : i < 0 = subst (λ (o : Object). i < length o.fields) none l in absurd (omega (arith, m)))

  -- ---- the environment

  env_free : get (with_stream core) environment_address ≡ None
  env_free = get_after empty (own_address 0) (blank_object core 5) environment_address ∙ get-empty address_cmp environment_address

  env_extends : Extends (with_stream core) (with_environment core)
  env_extends = fresh_extends (with_stream core) environment_address (environment core) env_free

  -- What holds of an object in the field of the environment.
  env_field : (h : ObjectMap) (i : ℕ) (f : FieldInfo) (v : Value) → OfType core h (5, form.Tag) (At (own_address 0)) → slice_get (out_field formed.built_in.out ∷ []) i ≡ Some f → slice_get (Some (At (own_address 0)) ∷ []) i ≡ Some (Some v) → OfType core h (field_type f) v
  env_field h zero f v typed at is = subst (λ (w : Value). OfType core h (field_type f) w) (same_Some (At (own_address 0)) v (same_Some (Some (At (own_address 0))) (Some v) is)) (subst (λ (g : FieldInfo). OfType core h (field_type g) (At (own_address 0))) (same_Some (out_field formed.built_in.out) f at) typed)
  env_field h (suc i) f v typed at is = absurd (none-some f at)

  stream_typed : (h : ObjectMap) → Extends (with_stream core) h → OfType core h (5, form.Tag) (At (own_address 0))
  stream_typed h x = record {
    entity = 5;
    is_entity = class_kept (with_stream core) h x (own_address 0) 5 stream_ok.stream;
    below = inl refl;
    kind = (_, formed.built_in.stream, refl);
    finished = λ t. absurd (false_true t);
  }

  env_object : ObjectOk core (with_environment core) (environment core)
  env_object = subst (ObjectOk core (with_environment core)) (sym (env_is core formed)) (record {
    entity = _;
    is_entity = formed.built_in.env;
    placed = refl;
    room = refl;
    fields = λ i f v at is. env_field (with_environment core) i f v (stream_typed (with_environment core) env_extends) at is;
  })

  env_second : (n k : ℕ) → 0 < n → n < k → 1 < k
  env_second n k l m = omega (arith, l, m)

  env_place : PlaceOk core (with_environment core) 1 environment_address 4
  env_place =
      let some : 0 < made_by (with_stream core) 0 = (stream_place (blank_object core 5)).serial in
      let more : made_by (with_stream core) 0 < made_by (with_environment core) 0 = made_here (with_stream core) environment_address (environment core) env_free in
      record {
        maker = omega arith;
        serial = env_second (made_by (with_stream core) 0) (made_by (with_environment core) 0) some more;
        first = λ x at actor. let bad : kind.Class ≡ kind.Actor = ap (λ (z : EntityDef). z.kind) (same_Some _ x (sym formed.built_in.env ∙ at)) ∙ actor in absurd (cc);
        stream = λ five. refl;
      }

  env_ok : ObjectsOk core (with_environment core) 1
  env_ok = add_objects core (with_stream core) 1 1 environment_address (environment core) stream_ok (omega arith) env_free env_object env_place

  env_all : (o : Object) → o ≡ record { entity = 4; fields = Some (At (own_address 0)) ∷ [] } → (i : ℕ) → i < length o.fields → (v : Value) × (slice_get o.fields i ≡ Some (Some v))
  env_all o is zero l = (At (own_address 0), ap (λ (p : Object). slice_get p.fields 0) is)
  env_all o is (suc i) l = let m : suc i < 1 = subst (λ (p : Object). suc i < length p.fields) is l in absurd (omega (arith, m))

  env_finished : Finished (with_environment core) (At environment_address)
  env_finished = (environment core, get_here (with_stream core) environment_address (environment core), env_all (environment core) (env_is core formed))

  -- ---- Main

  main_other : formed.main.entity ≢ 5
  main_other five = not_print core ann needs formed.main.number formed.main.create method.Spawn formed.main.is_method formed.main.spawns (λ e. cc) (needs.stream formed.main.number formed.main.create formed.main.is_method (formed.main.own ∙ five))

  main_extends : Extends (with_environment core) (with_main core formed.main.entity)
  main_extends = fresh_extends (with_environment core) (own_address 1) (blank_object core formed.main.entity) (own_free core (with_environment core) 1 env_ok)

  main_ok : ObjectsOk core (with_main core formed.main.entity) 2
  main_ok = spawn_objects core (with_environment core) 1 formed.main.entity formed.main.main env_ok formed.main.is_entity formed.main.actor main_other

  env_typed : OfType core (with_main core formed.main.entity) (4, form.Val) (At environment_address)
  env_typed = record {
    entity = 4;
    is_entity = class_kept (with_environment core) (with_main core formed.main.entity) main_extends environment_address 4 (class_is (with_environment core) environment_address (environment core) (get_here (with_stream core) environment_address (environment core)));
    below = inl refl;
    kind = (_, formed.built_in.env, refl);
    finished = λ t. finished_kept (with_environment core) (with_main core formed.main.entity) main_extends (At environment_address) env_finished;
  }

  main_arguments : ArgumentsOk core (with_main core formed.main.entity) (At environment_address ∷ []) formed.main.create.params
  main_arguments =
      let m = formed.main in
      let h : ObjectMap = with_main core m.entity in
      let typed : OfType core h (m.param.entity, plain m.param.cap) (At environment_address) =
      subst (λ (d : ℕ). OfType core h (d, plain m.param.cap) (At environment_address)) (sym m.env) (subst (λ (k : Cap). OfType core h (4, plain k) (At environment_address)) (sym m.cap) env_typed)
      in
      subst (λ (ps : List ParamInfo). ArgumentsOk core h (At environment_address ∷ []) ps) (sym m.params) (typed, tt)

  -- ---- the configuration

  actors_ok : (i : ℕ) (a : Actor) → slice_get (start_of core (Some (formed.main.entity, formed.main.number))).actors i ≡ Some a → ActorOk core ann (with_main core formed.main.entity) i a
  actors_ok zero a e =
      subst (ActorOk core ann (with_main core formed.main.entity) 0) (same_Some _ a e)
      (inr (finished_kept (with_environment core) (with_main core formed.main.entity) main_extends (At (own_address 0)) (finished_kept (with_stream core) (with_environment core) env_extends (At (own_address 0)) stream_finished), tt))
  actors_ok (suc zero) a e =
      let m = formed.main in
      let h : ObjectMap = with_main core m.entity in
      let o : Object = blank_object core m.entity in
      subst (ActorOk core ann h 1) (same_Some _ a e)
      (inl (
        refl,
        (record { own = m.create; is_own = m.is_method; kind = m.spawns; home = class_is h (own_address 1) o (get_here (with_environment core) (own_address 1) o) ∙ ap Some (sym m.own); arguments = main_arguments }, tt),
      ))
  actors_ok (suc (suc i)) a e = absurd (none-some a e)

  pub start_typed : WellTyped core ann (start core)
  start_typed = subst (λ (main : Option (ℕ × ℕ)). WellTyped core ann (start_of core main)) (sym (main_found core formed)) (record { objects = main_ok; actors = actors_ok })
