-- A field may be written if its object has it.
use Rattle.std.proofs.{Common.{◌≡◌, ℕ, ◌<◌, List, [], ◌∷◌, Option, Some, None, length, drop, refl, sym, ap, ◌∙◌, arith}, lemmas.Option.{same_Some, none-some}}
use Rattle.std.specs.{Prelude.{slice_get, slice_set}, FinMap.get}
use Rattle.pc_base.proofs.{Gets.{get_below, get_within}, Lookup.place_found}
use Rattle.pc_base.specs.Lists.{place_of, ◌>>=◌}
use Rattle.pc_heap.specs.{Objects.{Object, ObjectMap, class_at}, Fields.field_at, Parts.{class_in, field_in}, declared.value.Address.Address, declared.value.Value.Value, declared.value.Value.TheVariants.At}
use Rattle.pc_core.specs.{CoreData.{CoreData, field_named}, Parts.field_name, declared.declarations.EntityDef.EntityDef}
use Rattle.pc_semantics.specs.{declared.frames.Frame.Frame, Configurations.{with_stack, pop}, Parts.{with_top, number_of_fields, put_value, put_field, put_of, put_into}, Ahead.by_move}
use Rattle.pc_semantics.specs.declared.ahead.Ahead.TheVariants as ahead
use Rattle.pc_tasks.specs.{Fielded.{HasFields, Fielded}, Inside.seeing}

-- ---- a place for the field

place_in : (core : CoreData) (o : Object) (name i : ℕ) (x : Option EntityDef) → length o.fields ≡ number_of_fields x → (x >>= (λ e. place_of field_name name e.fields 0)) ≡ Some i → i < length o.fields
place_in core o name i None count e = absurd (none-some i e)
place_in core o name i (Some x) count e =
    let r = place_found field_name name x.fields 0 i e in
    let at = r.2 in
    let below = get_below x.fields r.0 r.1 r.3 in
    omega (arith, at, below, count)

pub field_place : (core : CoreData) (o : Object) (name i : ℕ) → HasFields core o → field_named core o.entity name ≡ Some i → (old : Option Value) × (slice_get o.fields i ≡ Some old)
field_place core o name i count e = get_within o.fields i (place_in core o name i (slice_get core.entities o.entity) count e)

-- ---- the write

module _ (core : CoreData) (objects : ObjectMap) (fielded : Fielded core objects) (name i e : ℕ) (a : Address) (named : field_named core e name ≡ Some i) where
  value_written : (f : Frame) (v : Value) (old : Option (Option Value)) → (x : Option Value) × (old ≡ Some x) → ahead.Task ≡ by_move (put_value f a i v old)
  value_written f v None x = absurd (none-some x.0 x.1)
  value_written f v (Some old) x = refl

  object_written : (f : Frame) (v : Value) (o : Option Object) → get objects a ≡ o → class_in o ≡ Some e → ahead.Task ≡ by_move (put_of core f name a v o)
  object_written f v None is class = absurd (none-some e class)
  object_written f v (Some o) is class =
      let found : field_named core o.entity name ≡ Some i = ap (λ n. field_named core n name) (same_Some o.entity e class) ∙ named in
      value_written f v (slice_get o.fields i) (field_place core o name i (fielded a o is) found)
      ∙ ap (λ p. by_move (put_field f a o v p)) (sym found)

  value_next : (f : Frame) (below : List Value) → 0 < length below → class_at objects a ≡ Some e → ahead.Task ≡ by_move (with_top f below (put_into core (seeing objects) name (At a)))
  value_next f [] l class = absurd (omega (arith, l))
  value_next f (w ∷ below) l class = object_written (with_stack f below) w (get objects a) refl class

  top_written : (f : Frame) (vs : List Value) → 1 < length vs → slice_get vs 0 ≡ Some (At a) → class_at objects a ≡ Some e → ahead.Task ≡ by_move (with_top f vs (λ o g. pop g (put_into core (seeing objects) name o)))
  top_written f [] l is class = absurd (omega (arith, l))
  top_written f (v ∷ below) l is class =
      let some : 0 < length below = omega (arith, l) in
      value_next (with_stack f below) below some class
      ∙ ap (λ o. by_move (pop (with_stack f below) (put_into core (seeing objects) name o))) (sym (same_Some v (At a) is))

-- The object on top has a field of this name, and a value is below it.
pub written : (core : CoreData) (objects : ObjectMap) (f : Frame) (name i e : ℕ) (a : Address) → Fielded core objects → 1 < length f.stack → slice_get f.stack 0 ≡ Some (At a) → class_at objects a ≡ Some e → field_named core e name ≡ Some i
    → ahead.Task ≡ by_move (pop f (λ o g. pop g (put_into core (seeing objects) name o)))
written core objects f name i e a fielded l is class named = top_written core objects fielded name i e a named f f.stack l is class

-- ---- what is popped

-- The object and the value are on top of the stack.
pub put_popped : (core : CoreData) (objects : ObjectMap) (f : Frame) (vs : List Value) (name : ℕ) (a : Address) (v : Value) → slice_get vs 0 ≡ Some (At a) → slice_get vs 1 ≡ Some v
    → with_top f vs (λ o g. pop g (put_into core (seeing objects) name o)) ≡ put_of core (with_stack f (drop 2 vs)) name a v (get objects a)
put_popped core objects f [] name a v top next = absurd (none-some (At a) top)
put_popped core objects f (x ∷ []) name a v top next = absurd (none-some v next)
put_popped core objects f (x ∷ y ∷ vs) name a v top next =
    ap (λ (o : Value). put_into core (seeing objects) name o y (with_stack f vs)) (same_Some x (At a) top)
    ∙ ap (λ (z : Value). put_of core (with_stack f vs) name a z (get objects a)) (same_Some y v next)

-- The object has the field, or it has none of this number.
pub put_is : (core : CoreData) (f : Frame) (o : Option Object) (name i e : ℕ) (a : Address) (v : Value) (s : Option (Option Value)) → class_in o ≡ Some e → field_named core e name ≡ Some i → field_in o i ≡ s → put_of core f name a v o ≡ put_value f a i v s
put_is core f None name i e a v s class named is = absurd (none-some e class)
put_is core f (Some o) name i e a v s class named is =
    ap (put_field f a o v) (ap (λ n. field_named core n name) (same_Some o.entity e class) ∙ named)
    ∙ ap (put_value f a i v) is

module _ (core : CoreData) (objects : ObjectMap) (f : Frame) (name i e : ℕ) (a : Address) (v : Value) (top : slice_get f.stack 0 ≡ Some (At a)) (next : slice_get f.stack 1 ≡ Some v) (class : class_at objects a ≡ Some e) (named : field_named core e name ≡ Some i) where
  pub put_ends : (s : Option (Option Value)) → field_at objects a i ≡ s → pop f (λ o g. pop g (put_into core (seeing objects) name o)) ≡ put_value (with_stack f (drop 2 f.stack)) a i v s
  put_ends s is = put_popped core objects f f.stack name a v top next ∙ put_is core (with_stack f (drop 2 f.stack)) (get objects a) name i e a v s class named is

-- ---- what is left on the stack

pub both_less : (vs : List Value) (w : Value) → drop 1 (drop 1 (slice_set vs 1 w)) ≡ drop 2 vs
both_less [] w = refl
both_less (x ∷ []) w = refl
both_less (x ∷ y ∷ vs) w = refl

pub one_less : (vs : List Value) (v w : Value) → slice_get vs 1 ≡ Some v → drop 1 (slice_set vs 1 w) ≡ w ∷ drop 2 vs
one_less [] v w e = absurd (none-some v e)
one_less (x ∷ []) v w e = absurd (none-some v e)
one_less (x ∷ y ∷ vs) v w e = refl
