-- A field is written: the same world fits the objects with the value, if the value fits the field.
use Rattle.std.specs.{Prelude.{◌≡◌, ◌⊎◌, ℕ, ◌<◌, length, Option, Some, None, slice_get, slice_set, refl}, FinMap.get}
use Rattle.std.proofs.{Common.{inl, inr, ap, sym, subst, ◌∙◌, length-set}, lemmas.Bool.cases_eq, lemmas.Option.{same_Some, none-some}}
use Rattle.pc_heap.specs.{Objects.{ObjectMap, with_field, with_value, Object}, Parts.object_in, declared.value.Address.Address, declared.value.Value.Value}
use Rattle.pc_base.proofs.Gets.{get_below, get_set_same, get_set_other}
use Rattle.pc_caps.specs.Tables.{unalias}
use Rattle.pc_core.specs.{declared.declarations.EntityDef.EntityDef, declared.declarations.FieldInfo.FieldInfo, CoreData.CoreData}
use Rattle.pc_regions.proofs.{World.{World, InField, Unused, Fits, WorldOk}, Fitting.FieldsFit}
use Rattle.pc_types.proofs.Heaps.{get_here, put_or_before, put_stays}

abbrev address : ℕ → ℕ → Address
address m s = record { maker = m; serial = s }

-- What makes an address.
pub address_is : (b a : Address) → b.maker ≡ a.maker → b.serial ≡ a.serial → b ≡ a
address_is b a m s = ap (λ (x : ℕ). address x b.serial) m ∙ ap (address a.maker) s

-- Two addresses are the same, or not.
pub same_address : (b a : Address) → (b ≡ a) ⊎ (b ≡ a → ⊥)
same_address b a =
    elim (cases_eq b.maker a.maker) [
      | inl m ↦ elim (cases_eq b.serial a.serial) [
        | inl s ↦ inl (address_is b a m s)
        | inr n ↦ inr (λ e. n (ap (λ (x : Address). x.serial) e))
      ]
      | inr n ↦ inr (λ e. n (ap (λ (x : Address). x.maker) e))
    ]

module _ (w : World) (objects : ObjectMap) (a : Address) (x : Object) (at : get objects a ≡ Some x) (k : ℕ) (v : Value) where
  abbrev new : Object
  new = with_field (object_in (get objects a)) k v

  new_is : new ≡ with_field x k v
  new_is = ap (λ (o : Option Object). with_field (object_in o) k v) at

  -- There is nothing where there was nothing.
  was_none : (b : Address) → get (with_value objects a k v) b ≡ None → (p : Option Object) → get objects b ≡ p → get objects b ≡ None
  was_none b e None g = g
  was_none b e (Some o) g = let s = put_stays objects a new b (o, g) in absurd (none-some s.0 (sym e ∙ s.1))

  pub world_written : (count : ℕ) → WorldOk w objects count → WorldOk w (with_value objects a k v) count
  world_written count ok = record {
    zero = ok.zero;
    named = ok.named;
    roles = ok.roles;
    root = ok.root;
    own = ok.own;
    contexts = ok.contexts;
    unused = ok.unused;
    regions = ok.regions;
    parents = ok.parents;
    holders = λ q b n e. put_stays objects a new b (ok.holders q b n e);
    absent = λ b e. ok.absent b (was_none b e (get objects b) refl);
    present = λ b o e u.
        elim (put_or_before objects a new b o e) [
          | inl p ↦ ok.present a x at (subst (λ (c : Address). w.stands (w.region c) ≡ Unused) p.0 u)
          | inr p ↦ ok.present b o p u
        ];
    homes = ok.homes;
  }

  -- All other fields fit as they did, and this one fits the value.
  module _
      (core : CoreData)
      (others : (b : Address) (o : Object) (e : EntityDef) (i : ℕ) (f : FieldInfo) (u : Value) → (b ≡ a → i ≡ k → ⊥) → get objects b ≡ Some o → slice_get core.entities o.entity ≡ Some e → slice_get e.fields i ≡ Some f → slice_get o.fields i ≡ Some (Some u) → Fits w (InField b i) (unalias f.cap) u)
      (here : (e : EntityDef) (f : FieldInfo) → slice_get core.entities x.entity ≡ Some e → slice_get e.fields k ≡ Some f → Fits w (InField a k) (unalias f.cap) v)
    where
      in_it : (e : EntityDef) (i : ℕ) (f : FieldInfo) (u : Value) → slice_get core.entities x.entity ≡ Some e → slice_get e.fields i ≡ Some f → slice_get (slice_set x.fields k (Some v)) i ≡ Some (Some u) → Fits w (InField a i) (unalias f.cap) u
      in_it e i f u is g h =
          elim (cases_eq i k) [
            | inl same ↦ let room : i < length x.fields = subst (λ (n : ℕ). i < n) (length-set x.fields k (Some v)) (get_below (slice_set x.fields k (Some v)) i (Some u) h) in
                let low : k < length x.fields = subst (λ (n : ℕ). n < length x.fields) same room in
                let both : ◌≡◌ {A = Option (Option Value)} (Some (Some v)) (Some (Some u)) = sym (get_set_same x.fields k (Some v) low) ∙ ap (slice_get (slice_set x.fields k (Some v))) (sym same) ∙ h in
                let value : v ≡ u = same_Some v u (same_Some (Some v) (Some u) both) in
                subst (λ (n : ℕ). Fits w (InField a n) (unalias f.cap) u) (sym same) (subst (Fits w (InField a k) (unalias f.cap)) value (here e f is (ap (slice_get e.fields) (sym same) ∙ g)))
            | inr n ↦ others a x e i f u (λ s t. n t) at is g (sym (get_set_other x.fields k (Some v) i n) ∙ h)
          ]

      pub fields_written : FieldsFit core w (with_value objects a k v)
      fields_written b o e i f u there is g h =
          elim (same_address b a) [
            | inl same ↦ let o_is : o ≡ with_field x k v = same_Some o new (sym there ∙ ap (get (with_value objects a k v)) same ∙ get_here objects a new) ∙ new_is in
                subst (λ (c : Address). Fits w (InField c i) (unalias f.cap) u) (sym same)
                (in_it e i f u (ap (λ (p : Object). slice_get core.entities p.entity) (sym o_is) ∙ is) g (ap (λ (p : Object). slice_get p.fields i) (sym o_is) ∙ h))
            | inr n ↦ elim (put_or_before objects a new b o there) [
              | inl p ↦ absurd (n p.0)
              | inr p ↦ others b o e i f u (λ s t. n s) p is g h
            ]
          ]
