-- The start of a core's program.
use Rattle.std.proofs.Common.{◌≡◌, ℕ, ◌+◌, ◌<◌, Bool, true, false, cond, List, [], ◌∷◌, Option, Some, None, refl, sym, ap, ◌∙◌, arith}
use Rattle.std.specs.{Prelude.{map, is_some, IsSome, slice_get, replicate}, FinMap.{empty, get, insert, len, entries, put, get-insert, same_map, len-empty, len-entries, entries-insert}, Ordering.eq_by_cmp}
use Rattle.pc_heap.specs.{Addresses.addresses_total, Heaps.object_limit, Objects.{address_cmp, ObjectMap, next_address, with_field, with_value, Object}, Parts.{object_in, field_in}, Fields.field_at, declared.value.Address.Address, declared.value.Value.Value, declared.value.Value.TheVariants.At}
use Rattle.pc_core.specs.{CoreData.CoreData, Formed.Formed}
use Rattle.pc_semantics.specs.{Configurations.{own_address, environment_address, environment, blank_object, start, start_of, main_create}, Parts.number_of_fields}
use Rattle.pc_machine.specs.States.{Peopled, IsPeopled}
use Rattle.pc_machine.proofs.Peopling.{exact_addresses, len_grows, peopled_actor, peopled_none, peopled_object}
use Rattle.pc_base.proofs.Cuts.{without_length}

-- ---- maps, as rules to compute with

inserted : (m : ObjectMap) (a : Address) (o : Object) (b : Address) → get (insert m a o) b ≡ cond (eq_by_cmp address_cmp b a) (Some o) (get m b)
inserted m a o b = get-insert addresses_total m a o b

listed : (m : ObjectMap) (a : Address) (o : Object) → entries (insert m a o) ≡ put address_cmp a o (entries m)
listed m a o = entries-insert addresses_total m a o

none_listed : entries (empty {X = Object} {R = address_cmp}) ≡ []
none_listed = without_length _ (sym (len-entries (empty {X = Object} {R = address_cmp})) ∙ len-empty address_cmp Object)

same_cond : {Y : Type 0} (b : Bool) (x y z : Y) → cond b x (cond b y z) ≡ cond b x z
same_cond true x y z = refl
same_cond false x y z = refl

-- an object in the place of another
insert_twice : (m : ObjectMap) (a : Address) (x y : Object) → insert (insert m a x) a y ≡ insert m a y
insert_twice m a x y = same_map addresses_total exact_addresses _ _ (λ q.
    inserted (insert m a x) a y q ∙ ap (cond (eq_by_cmp address_cmp q a) (Some y)) (inserted m a x q)
    ∙ same_cond (eq_by_cmp address_cmp q a) (Some y) (Some x) (get m q) ∙ sym (inserted m a y q))

-- ---- the objects, one after another

-- with the stream, then the environment, then its field, then Main
abbrev first_objects : CoreData → ObjectMap
first_objects core = insert empty (own_address 0) (blank_object core 5)

abbrev second_objects : CoreData → ObjectMap
second_objects core = insert (first_objects core) environment_address (blank_object core 4)

abbrev third_objects : CoreData → ObjectMap
third_objects core = insert (first_objects core) environment_address (environment core)

abbrev pub all_objects : CoreData → ℕ → ObjectMap
all_objects core main = insert (third_objects core) (own_address 1) (blank_object core main)

module _ (core : CoreData) (main : ℕ) where
  first_address : next_address empty 0 ≡ own_address 0
  first_address = simp none_listed refl

  second_address : next_address (first_objects core) 0 ≡ environment_address
  second_address = simp (listed, none_listed) refl

  third_address : next_address (third_objects core) 1 ≡ own_address 1
  third_address = simp (listed, none_listed) refl

  blank_there : get (second_objects core) environment_address ≡ Some (blank_object core 4)
  blank_there = simp inserted refl

  out_set : with_value (second_objects core) environment_address 0 (At (own_address 0)) ≡ third_objects core
  out_set =
      ap (λ (o : Option Object). insert (second_objects core) environment_address (with_field (object_in o) 0 (At (own_address 0)))) blank_there
      ∙ insert_twice (first_objects core) environment_address (blank_object core 4) (environment core)

  module _ (m0 : ObjectMap) (none : m0 ≡ empty) where
    pub few_none : len m0 < object_limit
    few_none = omega (arith, ap len none, len-empty address_cmp Object)

    module _ (m1 : ObjectMap) (a : Address) (at : a ≡ next_address m0 0) (one : m1 ≡ insert m0 a (blank_object core 5)) where
      at_first : a ≡ own_address 0
      at_first = at ∙ ap (λ (m : ObjectMap). next_address m 0) none ∙ first_address

      is_first : m1 ≡ first_objects core
      is_first = one ∙ ap (λ (m : ObjectMap). insert m a (blank_object core 5)) none ∙ ap (λ (x : Address). insert empty x (blank_object core 5)) at_first

      pub few_first : len m1 < object_limit
      few_first = let g = len_grows m0 a (blank_object core 5) in omega (arith, few_none, ap len none, len-empty address_cmp Object, ap len one, g.1)

      module _ (m2 : ObjectMap) (b : Address) (next : b ≡ next_address m1 0) (two : m2 ≡ insert m1 b (blank_object core 4)) where
        at_second : b ≡ environment_address
        at_second = next ∙ ap (λ (m : ObjectMap). next_address m 0) is_first ∙ second_address

        is_second : m2 ≡ second_objects core
        is_second = two ∙ ap (λ (m : ObjectMap). insert m b (blank_object core 4)) is_first ∙ ap (λ (x : Address). insert (first_objects core) x (blank_object core 4)) at_second

        pub has_out : Formed core → IsSome (field_at m2 b 0)
        has_out formed =
            let entity : number_of_fields (slice_get core.entities 4) ≡ 1 = ap number_of_fields formed.built_in.env in
            let field : field_at m2 b 0 ≡ Some None =
            ap (λ (m : ObjectMap). field_at m b 0) is_second ∙ ap (λ (x : Address). field_at (second_objects core) x 0) at_second
            ∙ ap (λ (o : Option Object). field_in o 0) blank_there ∙ ap (λ n. let fs : List (Option Value) = replicate n None in slice_get fs 0) entity in
            ap is_some field

        module _ (m3 : ObjectMap) (out : m3 ≡ with_value m2 b 0 (At a)) where
          is_third : m3 ≡ third_objects core
          is_third =
              out ∙ ap (λ (m : ObjectMap). with_value m b 0 (At a)) is_second ∙ ap (λ (x : Address). with_value (second_objects core) x 0 (At a)) at_second
              ∙ ap (λ (x : Address). with_value (second_objects core) environment_address 0 (At x)) at_first ∙ out_set

          pub few_third : len m3 < object_limit
          few_third =
              let g = len_grows empty (own_address 0) (blank_object core 5) in
              let h = len_grows (first_objects core) environment_address (environment core) in
              omega (arith, ap len is_third, len-empty address_cmp Object, g.1, h.1)

          pub is_start : (m4 : ObjectMap) (d : Address) → d ≡ next_address m3 1 → m4 ≡ insert m3 d (blank_object core main) → m4 ≡ all_objects core main
          is_start m4 d last three =
              let at_third : d ≡ own_address 1 = last ∙ ap (λ (m : ObjectMap). next_address m 1) is_third ∙ third_address in
              three ∙ ap (λ (m : ObjectMap). insert m d (blank_object core main)) is_third ∙ ap (λ (x : Address). insert (third_objects core) x (blank_object core main)) at_third

  -- ---- the makers are the two actors

  objects_peopled : Peopled (all_objects core main) 2
  objects_peopled =
      let few0 : len (empty {X = Object} {R = address_cmp}) < object_limit = omega (arith, len-empty address_cmp Object) in
      let g = len_grows empty (own_address 0) (blank_object core 5) in
      let few1 : len (first_objects core) < object_limit = omega (arith, len-empty address_cmp Object, g.1) in
      let h = len_grows (first_objects core) environment_address (environment core) in
      let few2 : len (third_objects core) < object_limit = omega (arith, len-empty address_cmp Object, g.1, h.1) in
      let first : Peopled (first_objects core) 1 = peopled_actor empty 0 (blank_object core 5) peopled_none few0 in
      let third : Peopled (third_objects core) 1 = peopled_object (first_objects core) 1 environment_address (environment core) first few1 (omega arith) in
      peopled_actor (third_objects core) 1 (blank_object core main) third few2

begins_peopled : (core : CoreData) (o : Option (ℕ × ℕ)) → IsPeopled (start_of core o)
begins_peopled core None = peopled_none
begins_peopled core (Some p) = objects_peopled core p.0

-- At the start of a program, the makers of objects are actors.
pub start_peopled : (core : CoreData) → IsPeopled (start core)
start_peopled core = begins_peopled core (main_create core)
