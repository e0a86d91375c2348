-- The object whose field a node reads or writes, and what the rules state about that field.
use Rattle.std.specs.{Prelude.{◌≡◌, ℕ, ◌<◌, true, ◌&&◌, List, [], length, Option, Some, None, nat_eq, slice_get, refl}, FinMap.get}
use Rattle.std.proofs.{Common.{inl, inr, ap, sym, subst, ◌∙◌, arith}, lemmas.Option.{same_Some, none-some}, lemmas.Bool.{and_parts, eqb-true}}
use Rattle.pc_heap.specs.{Objects.{ObjectMap, Object}, declared.value.Address.Address, declared.value.Value.Value, declared.value.Value.TheVariants.At}
use Rattle.pc_base.proofs.{Gets.get_below, Options.{bind_some, kept}, Bools.false_true}
use Rattle.pc_core.specs.{declared.declarations.EntityDef.EntityDef, declared.declarations.FieldInfo.FieldInfo, declared.declarations.Method.Method, declared.nodes.Node.Node, CoreData.{CoreData, field_named}}
use Rattle.pc_tree.specs.Kinds.{may_have_fields}
use Rattle.pc_tree.proofs.KindFacts.{concrete}
use Rattle.pc_masks.specs.{declared.mask.Mask.Mask, Masks.IsInMask}
use Rattle.pc_ann.specs.declared.annotation.Ann.{Ann}
use Rattle.pc_semantics.specs.Configurations.{value_entity}
use Rattle.pc_rules.specs.{Parts.{constructs, last_child}, Fields.{field_of, is_this, lacks_fields}}
use Rattle.pc_valid.specs.Words.{Ty}
use Rattle.pc_rules.proofs.ByNumber.{own_set, incomplete_in, incomplete}
use Rattle.pc_types.proofs.{Types.{Finished, OfKind, OfType}, Tasks.gives_this, Frames.HasFields, Typed.{ObjectOk, ObjectsOk}, Needs.Needs, Growth.object_of, Values.is_address}

-- ---- fields

-- The field of this index and name.
pub record FieldAt (core : CoreData) (d name i : ℕ) (g : FieldInfo) : Type 0 where
  pub entity : EntityDef
  pub is_entity : slice_get core.entities d ≡ Some entity
  pub named : field_named core d name ≡ Some i
  pub is_field : slice_get entity.fields i ≡ Some g

pub field_at : (core : CoreData) (d name i : ℕ) (g : FieldInfo) → field_of core d name ≡ Some (i, g) → FieldAt core d name i g
field_at core d name i g e =
    let a = bind_some (field_named core d name) _ (i, g) e in
    let b = bind_some (slice_get core.entities d) _ (i, g) a.2 in
    let c = bind_some (slice_get b.0.fields a.0) _ (i, g) b.2 in
    let is : ◌≡◌ {A = ℕ × FieldInfo} (a.0, c.0) (i, g) = same_Some (a.0, c.0) (i, g) c.2 in
    let index : a.0 ≡ i = ap (λ (p : ℕ × FieldInfo). p.0) is in
    record {
      entity = b.0;
      is_entity = b.1;
      named = a.1 ∙ ap (λ (k : ℕ). Some k) index;
      is_field = ap (slice_get b.0.fields) (sym index) ∙ c.1 ∙ ap (λ (p : ℕ × FieldInfo). Some p.1) is;
    }

-- An entity with a field is a class or an actor.
some_field : (fs : List FieldInfo) (i : ℕ) (g : FieldInfo) → slice_get fs i ≡ Some g → fs ≡ [] → ⊥
some_field fs i g e is = none-some g (ap (λ (gs : List FieldInfo). slice_get gs i) (sym is) ∙ e)

pub has_fields : (core : CoreData) (ann : Ann) → Needs core ann → (d name i : ℕ) (g : FieldInfo) (p : FieldAt core d name i g) → may_have_fields p.entity.kind ≡ true
has_fields core ann needs d name i g p = elim (needs.formed.entities d p.entity p.is_entity).placed_fields [
  | inl none ↦ absurd (some_field p.entity.fields i g p.is_field none)
  | inr placed ↦ placed
]

-- ---- objects

-- The object of a value.
pub record Origin (core : CoreData) (objects : ObjectMap) (d name i : ℕ) (g : FieldInfo) (v : Value) : Type 0 where
  pub address : Address
  pub is : v ≡ At address
  pub object : Object
  pub stands : get objects address ≡ Some object
  pub entity : object.entity ≡ d
  pub fits : ObjectOk core objects object
  -- its field
  pub named : field_named core object.entity name ≡ Some i
  pub is_field : slice_get fits.entity.fields i ≡ Some g
  pub room : i < length object.fields

module _ (core : CoreData) (ann : Ann) (needs : Needs core ann) (objects : ObjectMap) (count : ℕ) (ok : ObjectsOk core objects count) where
  pub origin_of : (d name i : ℕ) (g : FieldInfo) (v : Value) → FieldAt core d name i g → OfKind core d v → value_entity objects v ≡ Some d → Origin core objects d name i g v
  origin_of d name i g v p kind is =
      let a = is_address core ann needs objects d p.entity v kind is p.is_entity (has_fields core ann needs d name i g p) in
      let o = object_of objects a.0 d (ap (value_entity objects) (sym a.1) ∙ is) in
      let fits = (ok.each a.0 o.0 o.1).0 in
      let same : p.entity ≡ fits.entity = same_Some p.entity fits.entity (sym p.is_entity ∙ ap (slice_get core.entities) (sym o.2) ∙ fits.is_entity) in
      let field : slice_get fits.entity.fields i ≡ Some g = ap (λ (x : EntityDef). slice_get x.fields i) (sym same) ∙ p.is_field in
      let below = get_below fits.entity.fields i g field in
      let room = fits.room in
      record {
        address = a.0;
        is = a.1;
        object = o.0;
        stands = o.1;
        entity = o.2;
        fits = fits;
        named = ap (λ (k : ℕ). field_named core k name) o.2 ∙ p.named;
        is_field = field;
        room = omega (arith, below, room);
      }

  -- A value of a type whose entity has the field is an object of that entity.
  pub own_entity : (t : Ty) (name i : ℕ) (g : FieldInfo) (v : Value) → FieldAt core t.0 name i g → (k : OfType core objects t v) → k.entity ≡ t.0
  own_entity t name i g v p k = needs.only_traits k.entity t.0 p.entity k.below p.is_entity (concrete p.entity.kind (has_fields core ann needs t.0 name i g p))

  pub origin_at : (t : Ty) (name i : ℕ) (g : FieldInfo) (v : Value) → FieldAt core t.0 name i g → OfType core objects t v → Origin core objects t.0 name i g v
  origin_at t name i g v p k =
      let is = own_entity t name i g v p k in
      origin_of t.0 name i g v p (subst (λ (d : ℕ). OfKind core d v) is k.kind) (k.is_entity ∙ ap (λ (d : ℕ). Some d) is)

  -- A field of a finished object has a value.
  pub value_there : (d name i : ℕ) (g : FieldInfo) (v : Value) (o : Origin core objects d name i g v) → Finished objects v → (w : Value) × (slice_get o.object.fields i ≡ Some (Some w))
  value_there d name i g v o done =
      let k : Finished objects (At o.address) = subst (Finished objects) o.is done in
      let same : k.0 ≡ o.object = same_Some k.0 o.object (sym k.1 ∙ o.stands) in
      let w = k.2 i (subst (λ (x : Object). i < length x.fields) (sym same) o.room) in
      (w.0, ap (λ (x : Object). slice_get x.fields i) (sym same) ∙ w.1)

-- A field that is set has a value.
pub set_value : (core : CoreData) (objects : ObjectMap) (d name i : ℕ) (g : FieldInfo) (v : Value) (set : Mask) (o : Origin core objects d name i g v) → HasFields objects set v → IsInMask set i → (w : Value) × (slice_get o.object.fields i ≡ Some (Some w))
set_value core objects d name i g v set o has_them b =
    let k : HasFields objects set (At o.address) = subst (HasFields objects set) o.is has_them in
    let same : k.0 ≡ o.object = same_Some k.0 o.object (sym k.1 ∙ o.stands) in
    let w = k.2 i b in
    (w.0, ap (λ (y : Object). slice_get y.fields i) (sym same) ∙ w.1)

-- ---- nodes on an object that is not finished

-- The last child is `this`, in a constructor.
pub record OwnOrigin (core : CoreData) (x : Node) (own : Method) : Type 0 where
  pub constructs : constructs own.kind ≡ true
  pub depth : x.depth ≡ 0
  pub last : ℕ
  pub is_last : last_child x.children ≡ Some last
  pub this : gives_this (slice_get core.nodes last) ≡ true

own_last : (core : CoreData) (ann : Ann) (cs : List ℕ) (e : ℕ) (o : Option Mask) → own_set core ann cs ≡ o → lacks_fields core e o ≡ true → (c : ℕ) × (last_child cs ≡ Some c) × (gives_this (slice_get core.nodes c) ≡ true)
own_last core ann cs e None is h = absurd (false_true h)
own_last core ann cs e (Some s) is h =
    let c = bind_some (last_child cs) _ s is in
    let y = bind_some (slice_get core.nodes c.0) _ s c.2 in
    let t = bind_some (slice_get ann.notes c.0) _ s y.2 in
    let k = kept (is_this y.0.kind) (Some t.0.set_before) s t.2 in
    (c.0, c.1, ap gives_this y.1 ∙ k.0)

pub own_origin : (core : CoreData) (ann : Ann) (x : Node) (own : Method) → slice_get core.methods x.method ≡ Some own → incomplete core ann x ≡ true → OwnOrigin core x own
own_origin core ann x own is e =
    let h : incomplete_in core ann x (Some own) ≡ true = ap (incomplete_in core ann x) (sym is) ∙ e in
    let p = and_parts (constructs own.kind) (nat_eq x.depth 0 && lacks_fields core own.entity (own_set core ann x.children)) h in
    let q = and_parts (nat_eq x.depth 0) (lacks_fields core own.entity (own_set core ann x.children)) p.1 in
    let l = own_last core ann x.children own.entity (own_set core ann x.children) refl q.1 in
    record { constructs = p.0; depth = eqb-true x.depth 0 q.0; last = l.0; is_last = l.1; this = l.2 }
