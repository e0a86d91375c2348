-- What a value of some types is.
use Rattle.std.specs.Prelude.{◌≡◌, ℕ, ◌≤◌, Bool, true, false, List, [], ◌∷◌, Some, slice_get, refl}
use Rattle.std.proofs.{Common.{inl, inr, ap, sym, ◌∙◌, arith}, lemmas.Option.same_Some}
use Rattle.pc_heap.specs.{Objects.ObjectMap, declared.value.Address.Address, declared.value.Value.Value, declared.value.Value.TheVariants.{Num, Truth, Text, Prim, At}}
use Rattle.pc_caps.specs.declared.capability.Form.{Form}
use Rattle.pc_tree.specs.{declared.kinds.EntityKind.EntityKind, Kinds.{is_abstract, may_have_fields}}
use Rattle.pc_tree.specs.declared.kinds.EntityKind.TheVariants as entity
use Rattle.pc_tree.proofs.KindFacts.{concrete}
use Rattle.pc_core.specs.{declared.declarations.EntityDef.EntityDef, CoreData.CoreData, Nodes.NamesPrimitive}
use Rattle.pc_ann.specs.declared.annotation.Ann.{Ann}
use Rattle.pc_semantics.specs.Configurations.{value_entity}
use Rattle.pc_base.proofs.Bools.{false_true}
use Rattle.pc_types.proofs.{Types.{OfKind, OfType, Want, Answers, StackOk}, Needs.Needs}

-- ---- the top of a typed stack

pub record TopIs (core : CoreData) (objects : ObjectMap) (this : Value) (w : Want) (ws : List Want) (vs : List Value) : Type 0 where
  pub top : Value
  pub below : List Value
  pub is : vs ≡ top ∷ below
  pub answers : Answers core objects this w top
  pub ok : StackOk core objects this ws below

pub top_is : (core : CoreData) (objects : ObjectMap) (this : Value) (w : Want) (ws : List Want) (vs : List Value) → StackOk core objects this (w ∷ ws) vs → TopIs core objects this w ws vs
top_is core objects this w ws [] k = absurd k
top_is core objects this w ws (v ∷ vs) k = record { top = v; below = vs; is = refl; answers = k.0; ok = k.1 }

-- ---- values of entities that are neither traits nor interfaces

primitive_entity : (core : CoreData) (d : ℕ) (x y : EntityDef) → slice_get core.entities d ≡ Some x → x.kind ≡ entity.Primitive → slice_get core.entities d ≡ Some y → may_have_fields y.kind ≡ true → ⊥
primitive_entity core d x y e p g h = false_true (ap may_have_fields (sym p) ∙ ap (λ (z : EntityDef). may_have_fields z.kind) (same_Some x y (sym e ∙ g)) ∙ h)

no_trait : (k : EntityKind) → k ≡ entity.Primitive → is_abstract k ≡ false
no_trait k p = ap is_abstract p

module _ (core : CoreData) (ann : Ann) (needs : Needs core ann) (objects : ObjectMap) where
  -- A value's own entity, if its type's is a primitive.
  pub own_primitive : (k : ℕ) (f : Form) (x : EntityDef) (v : Value) → slice_get core.entities k ≡ Some x → x.kind ≡ entity.Primitive → (t : OfType core objects (k, f) v) → t.entity ≡ k
  own_primitive k f x v e p t = needs.only_traits t.entity k x t.below e (no_trait x.kind p)

  built_one : (e : ℕ) → NamesPrimitive core e → (k : ℕ) → e ≡ k → 1 ≤ k → k ≤ 5 → ⊥
  built_one e (inl zero) k p l h = absurd (omega (arith, zero, p, l, h))
  built_one e (inr other) k p l h = let six = other.0 in absurd (omega (arith, six, p, l, h))

  pub is_number : (f : Form) (v : Value) → OfType core objects (1, f) v → (n : ℕ) × (v ≡ Num n)
  is_number f v t = go v t (own_primitive 1 f _ v needs.formed.built_in.numbers refl t)
    where
      go : (v : Value) (t : OfType core objects (1, f) v) → t.entity ≡ 1 → (n : ℕ) × (v ≡ Num n)
      go (Num n) t e = (n, refl)
      go (Truth b) t e = let bad = same_Some 2 t.entity t.is_entity in absurd (omega (arith, bad, e))
      go (Text s) t e = let bad = same_Some 3 t.entity t.is_entity in absurd (omega (arith, bad, e))
      go (Prim p) t e = absurd (built_one p t.kind 1 (same_Some p t.entity t.is_entity ∙ e) (omega arith) (omega arith))
      go (At a) t e = absurd (primitive_entity core t.entity _ t.kind.0 (ap (slice_get core.entities) e ∙ needs.formed.built_in.numbers) refl t.kind.1 t.kind.2)

  pub is_truth : (f : Form) (v : Value) → OfType core objects (2, f) v → (b : Bool) × (v ≡ Truth b)
  is_truth f v t = go v t (own_primitive 2 f _ v needs.formed.built_in.truths refl t)
    where
      go : (v : Value) (t : OfType core objects (2, f) v) → t.entity ≡ 2 → (b : Bool) × (v ≡ Truth b)
      go (Truth b) t e = (b, refl)
      go (Num n) t e = let bad = same_Some 1 t.entity t.is_entity in absurd (omega (arith, bad, e))
      go (Text s) t e = let bad = same_Some 3 t.entity t.is_entity in absurd (omega (arith, bad, e))
      go (Prim p) t e = absurd (built_one p t.kind 2 (same_Some p t.entity t.is_entity ∙ e) (omega arith) (omega arith))
      go (At a) t e = absurd (primitive_entity core t.entity _ t.kind.0 (ap (slice_get core.entities) e ∙ needs.formed.built_in.truths) refl t.kind.1 t.kind.2)

  pub is_text : (f : Form) (v : Value) → OfType core objects (3, f) v → (s : List ℕ) × (v ≡ Text s)
  is_text f v t = go v t (own_primitive 3 f _ v needs.formed.built_in.texts refl t)
    where
      go : (v : Value) (t : OfType core objects (3, f) v) → t.entity ≡ 3 → (s : List ℕ) × (v ≡ Text s)
      go (Text s) t e = (s, refl)
      go (Num n) t e = let bad = same_Some 1 t.entity t.is_entity in absurd (omega (arith, bad, e))
      go (Truth b) t e = let bad = same_Some 2 t.entity t.is_entity in absurd (omega (arith, bad, e))
      go (Prim p) t e = absurd (built_one p t.kind 3 (same_Some p t.entity t.is_entity ∙ e) (omega arith) (omega arith))
      go (At a) t e = absurd (primitive_entity core t.entity _ t.kind.0 (ap (slice_get core.entities) e ∙ needs.formed.built_in.texts) refl t.kind.1 t.kind.2)

  -- A value whose own entity is a class or an actor is the address of an object.
  primitive_name : (e : ℕ) (x : EntityDef) → NamesPrimitive core e → slice_get core.entities e ≡ Some x → may_have_fields x.kind ≡ true → ⊥
  primitive_name e x (inl zero) g h = primitive_entity core e _ x (ap (slice_get core.entities) zero ∙ needs.formed.built_in.none) refl g h
  primitive_name e x (inr other) g h = primitive_entity core e other.1.0 x other.1.1 other.1.2 g h

  pub is_address : (d : ℕ) (x : EntityDef) (v : Value) → OfKind core d v → value_entity objects v ≡ Some d → slice_get core.entities d ≡ Some x → may_have_fields x.kind ≡ true → (a : Address) × (v ≡ At a)
  is_address d x (At a) k e g h = (a, refl)
  is_address d x (Num n) k e g h = absurd (primitive_entity core d _ x (ap (slice_get core.entities) (sym (same_Some 1 d e)) ∙ needs.formed.built_in.numbers) refl g h)
  is_address d x (Truth b) k e g h = absurd (primitive_entity core d _ x (ap (slice_get core.entities) (sym (same_Some 2 d e)) ∙ needs.formed.built_in.truths) refl g h)
  is_address d x (Text s) k e g h = absurd (primitive_entity core d _ x (ap (slice_get core.entities) (sym (same_Some 3 d e)) ∙ needs.formed.built_in.texts) refl g h)
  is_address d x (Prim p) k e g h = absurd (primitive_name p x k (ap (slice_get core.entities) (same_Some p d e) ∙ g) h)

  -- A value's own entity is neither a trait nor an interface.
  pub own_no_trait : (d : ℕ) (x : EntityDef) (v : Value) → OfKind core d v → value_entity objects v ≡ Some d → slice_get core.entities d ≡ Some x → is_abstract x.kind ≡ false
  own_no_trait d x (At a) k e g = sym (ap (λ (z : EntityDef). is_abstract z.kind) (same_Some k.0 x (sym k.1 ∙ g))) ∙ concrete k.0.kind k.2
  own_no_trait d x (Num n) k e g = no_trait x.kind (ap (λ (z : EntityDef). z.kind) (same_Some x _ (sym g ∙ ap (slice_get core.entities) (sym (same_Some 1 d e)) ∙ needs.formed.built_in.numbers)))
  own_no_trait d x (Truth b) k e g = no_trait x.kind (ap (λ (z : EntityDef). z.kind) (same_Some x _ (sym g ∙ ap (slice_get core.entities) (sym (same_Some 2 d e)) ∙ needs.formed.built_in.truths)))
  own_no_trait d x (Text s) k e g = no_trait x.kind (ap (λ (z : EntityDef). z.kind) (same_Some x _ (sym g ∙ ap (slice_get core.entities) (sym (same_Some 3 d e)) ∙ needs.formed.built_in.texts)))
  own_no_trait d x (Prim p) k e g = named p x k (ap (slice_get core.entities) (same_Some p d e) ∙ g)
    where
      named : (p : ℕ) (x : EntityDef) → NamesPrimitive core p → slice_get core.entities p ≡ Some x → is_abstract x.kind ≡ false
      named p x (inl zero) g = no_trait x.kind (ap (λ (z : EntityDef). z.kind) (same_Some x _ (sym g ∙ ap (slice_get core.entities) zero ∙ needs.formed.built_in.none)))
      named p x (inr other) g = no_trait x.kind (ap (λ (z : EntityDef). z.kind) (same_Some x other.1.0 (sym g ∙ other.1.1)) ∙ other.1.2)
