-- Entities by their names.
use Rattle.std.proofs.{Common.{◌≡◌, ℕ, zero, suc, ◌+◌, List, [], ◌∷◌, ◌++◌, length, Some, Bool, true, false, refl, sym, ap, ◌∙◌, arith, if◌then◌else◌, inl, inr}, lemmas.Option.{same_Some, none-some}}
use Rattle.std.specs.{Prelude.{slice_get, ◌⊎◌}, Str.bytes_eq}
use Rattle.pc_tree.specs.Kinds.{is_abstract}
use Rattle.pc_tree.specs.Tree as t
use Rattle.pc_base.specs.Lists.{Has, Differ, Text}
use Rattle.pc_base.proofs.{Gets.{get_append, get_map}, Elements.{has_on, has_either}}
use Rattle.pc_members.specs.{MemberLists.{is_among, with_name, with_traits, trait_names, entity_named}, Members.{built_in_names, texts_of, entity_names}}
use Rattle.pc_members.proofs.Differences.{equal_texts}

pub named_is : (es : List t.Entity) (name : Text) (f : t.Entity) → entity_named es name ≡ Some f → Has es f × (f.name.text ≡ name)
named_is [] name f h = absurd (none-some f h)
named_is (e ∷ es) name f h = by (λ g. named_is es name f g) (bytes_eq e.name.text name) refl h
  where
    by : (entity_named es name ≡ Some f → Has es f × (f.name.text ≡ name)) → (b : Bool) → bytes_eq e.name.text name ≡ b → (if b then Some e else entity_named es name) ≡ Some f → Has (e ∷ es) f × (f.name.text ≡ name)
    by rest true d g = ((0, g), ap (λ (x : t.Entity). x.name.text) (sym (same_Some e f g)) ∙ equal_texts e.name.text name d)
    by rest false d g = let r = rest g in (has_on e es f r.0, r.1)

-- Entities with the same name are the same.
pub one_entity : (file : t.File) (f g : t.Entity) → Differ (entity_names file) → Has file.entities f → Has file.entities g → f.name.text ≡ g.name.text → f ≡ g
one_entity file f g d hf hg e =
    let at : (i : ℕ) (x : t.Entity) → slice_get file.entities i ≡ Some x → slice_get (entity_names file) (length built_in_names + i) ≡ Some x.name.text = λ i x h. get_append built_in_names (texts_of file.entities) i ∙ get_map (λ (y : t.Entity). y.name.text) file.entities i x h in
    let there : slice_get (entity_names file) (length built_in_names + hg.0) ≡ Some f.name.text = at hg.0 g hg.1 ∙ ap (λ x. Some x) (sym e) in
    let same : length built_in_names + hf.0 ≡ length built_in_names + hg.0 = d (length built_in_names + hf.0) (length built_in_names + hg.0) f.name.text (at hf.0 f hf.1) there in
    let place : hf.0 ≡ hg.0 = omega (arith, same) in
    same_Some f g (sym hf.1 ∙ ap (slice_get file.entities) place ∙ hg.1)

-- The name of a trait is that of a trait.
name_of_trait : (names : List Text) (x y : Text) → Has (with_name names x) y → Has names y ⊎ (x ≡ y)
name_of_trait names x y h = by (is_among x names) h
  where
    single : (h : Has (x ∷ []) y) → x ≡ y
    single (zero, g) = same_Some x y g
    single (suc i, g) = absurd (none-some y g)

    by : (b : Bool) → Has (if b then names else names ++ x ∷ []) y → Has names y ⊎ (x ≡ y)
    by true g = inl g
    by false g = elim (has_either names (x ∷ []) y g) [ inl a ↦ inl a | inr b ↦ inr (single b) ]

abbrev pub TraitNamed : List t.Entity → Text → Type 0
TraitNamed es x = (f : t.Entity) × Has es f × (is_abstract f.kind ≡ true) × (f.name.text ≡ x)

trait_named : (known : List Text) (es : List t.Entity) (x : Text) → Has (with_traits known es) x → Has known x ⊎ TraitNamed es x
trait_named known [] x h = inl h
trait_named known (e ∷ es) x h = by (is_abstract e.kind) refl (trait_named (if is_abstract e.kind then with_name known e.name.text else known) es x h)
  where
    by : (b : Bool) → is_abstract e.kind ≡ b → Has (if b then with_name known e.name.text else known) x ⊎ TraitNamed es x → Has known x ⊎ TraitNamed (e ∷ es) x
    by b d (inr r) = inr (r.0, has_on e es r.0 r.1, r.2, r.3)
    by true d (inl g) = elim (name_of_trait known e.name.text x g) [ inl a ↦ inl a | inr s ↦ inr (e, (0, refl), d, s) ]
    by false d (inl g) = inl g

pub is_trait_named : (es : List t.Entity) (x : Text) → Has (trait_names es) x → TraitNamed es x
is_trait_named es x h = elim (trait_named [] es x h) [ inl a ↦ absurd (none-some x a.1) | inr b ↦ b ]
