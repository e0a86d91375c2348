-- What follows from the table of what each kind of entity may contain.
use Rattle.std.proofs.Common.{◌≡◌, true, false, refl, sym, ◌∙◌, inl, inr}
use Rattle.std.specs.Prelude.{◌⊎◌}
use Rattle.pc_tree.specs.{declared.kinds.EntityKind.EntityKind, declared.kinds.MethodWord.MethodWord, Kinds.{is_abstract, may_have_fields, may_stand}}
use Rattle.pc_tree.specs.declared.kinds.EntityKind.TheVariants as kind
use Rattle.pc_tree.specs.declared.kinds.MethodWord.TheVariants as word

no : {A : Type 0} → false ≡ true → A
no h = absurd (cc)

-- Constructors are in classes and actors,
pub created : (k : EntityKind) → may_stand k word.New ≡ true → (k ≡ kind.Class) ⊎ (k ≡ kind.Actor)
created kind.Class h = inl refl
created kind.Actor h = inr refl
created kind.Primitive h = no h
created kind.Trait h = no h
created kind.Interface h = no h

-- and so do fields,
pub concrete : (k : EntityKind) → may_have_fields k ≡ true → is_abstract k ≡ false
concrete kind.Class h = refl
concrete kind.Actor h = refl
concrete kind.Primitive h = refl
concrete kind.Trait h = no h
concrete kind.Interface h = no h

-- but not in traits and interfaces.
pub no_fields : (k : EntityKind) → is_abstract k ≡ true → may_have_fields k ≡ false
no_fields kind.Class h = no h
no_fields kind.Actor h = no h
no_fields kind.Primitive h = no h
no_fields kind.Trait h = refl
no_fields kind.Interface h = refl

-- Traits and interfaces may contain the same methods.
in_trait : (k : EntityKind) (w : MethodWord) → is_abstract k ≡ true → may_stand k w ≡ may_stand kind.Trait w
in_trait k word.Fun h = refl
in_trait kind.Class w h = no h
in_trait kind.Actor w h = no h
in_trait kind.Primitive w h = no h
in_trait kind.Trait w h = refl
in_trait kind.Interface word.Be h = refl
in_trait kind.Interface word.New h = refl

pub same_methods : (j k : EntityKind) (w : MethodWord) → is_abstract j ≡ true → is_abstract k ≡ true → may_stand j w ≡ may_stand k w
same_methods j k w i h = in_trait j w i ∙ sym (in_trait k w h)

pub no_new : (k : EntityKind) → is_abstract k ≡ true → may_stand k word.New ≡ false
no_new k h = in_trait k word.New h
