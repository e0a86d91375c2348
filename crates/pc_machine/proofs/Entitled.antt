-- Objects keep the fields of their entities: when a field gets a value, and when an object is added.
use Rattle.std.proofs.{Common.{◌≡◌, ℕ, Bool, true, false, cond, Option, Some, None, refl, sym, ◌∙◌, subst}, lemmas.List.{length-set, length-replicate}, lemmas.Bool.false≢true, lemmas.Option.{same_Some, none-some}}
use Rattle.std.specs.{Prelude.{IsSome, slice_get}, Ordering.eq_by_cmp, FinMap.{get, insert, empty, get-insert, get-empty}}
use Rattle.pc_heap.specs.{Addresses.addresses_total, Objects.{address_cmp, ObjectMap, with_field, with_value, Object}, Parts.object_in, declared.value.Address.Address, declared.value.Value.Value, declared.value.Value.TheVariants.At}
use Rattle.pc_core.specs.CoreData.{CoreData}
use Rattle.pc_semantics.specs.{Configurations.{own_address, environment_address, blank_object, environment, main_create, start, start_of}, Parts.number_of_fields}
use Rattle.pc_tasks.specs.Fielded.{HasFields, Fielded}

module _ (core : CoreData) where
  here_or_before : (b : Bool) (o x : Object) (before : Option Object) → HasFields core o → (before ≡ Some x → HasFields core x) → cond b (Some o) before ≡ Some x → HasFields core x
  here_or_before true o x before own others e = subst (HasFields core) (same_Some o x e) own
  here_or_before false o x before own others e = others e

  pub object_comes : (objects : ObjectMap) (a : Address) (o : Object) → Fielded core objects → HasFields core o → Fielded core (insert objects a o)
  object_comes objects a o p own b x e = here_or_before (eq_by_cmp address_cmp b a) o x (get objects b) own (p b x) (sym (get-insert addresses_total objects a o b) ∙ e)

  set_fields : (o : Object) (k : ℕ) (v : Value) → HasFields core o → HasFields core (with_field o k v)
  set_fields o k v own = length-set o.fields k (Some v) ∙ own

  found_fields : (objects : ObjectMap) (a : Address) (k : ℕ) (v : Value) → Fielded core objects → (o : Option Object) → get objects a ≡ o → IsSome o → HasFields core (with_field (object_in o) k v)
  found_fields objects a k v p None e h = absurd (false≢true h)
  found_fields objects a k v p (Some o) e h = set_fields o k v (p a o e)

  pub field_written : (objects : ObjectMap) (a : Address) (k : ℕ) (v : Value) → Fielded core objects → IsSome (get objects a) → Fielded core (with_value objects a k v)
  field_written objects a k v p h = object_comes objects a (with_field (object_in (get objects a)) k v) p (found_fields objects a k v p (get objects a) refl h)

  -- ---- the start

  none_fielded : Fielded core empty
  none_fielded a o e = absurd (none-some o (sym (get-empty address_cmp a) ∙ e))

  blank : (e : ℕ) → HasFields core (blank_object core e)
  blank e = length-replicate (number_of_fields (slice_get core.entities e)) None

  begins_fielded : (o : Option (ℕ × ℕ)) → Fielded core (start_of core o).objects
  begins_fielded None = none_fielded
  begins_fielded (Some main) =
      object_comes _ (own_address 1) (blank_object core main.0)
      (object_comes _ environment_address (environment core)
      (object_comes empty (own_address 0) (blank_object core 5) none_fielded (blank 5))
      (set_fields (blank_object core 4) 0 (At (own_address 0)) (blank 4)))
      (blank main.0)

  -- At the start of a program.
  pub start_fielded : Fielded core (start core).objects
  start_fielded = begins_fielded (main_create core)
