-- Where the members of an entity come from: its own methods, and what is written above it.
use Rattle.std.proofs.{Common.{◌≡◌, ℕ, zero, suc, ◌+◌, ◌&&◌, List, [], ◌∷◌, ◌++◌, length, map, Option, Some, None, Bool, true, false, not, refl, sym, ap, ◌∙◌, subst, if◌then◌else◌, inl, inr}, lemmas.Bool.not-false, lemmas.Option.{same_Some, none-some}, lemmas.List.append_assoc}
use Rattle.std.specs.Prelude.{slice_get, ◌⊎◌}
use Rattle.pc_tree.specs.{declared.kinds.EntityKind.EntityKind, Kinds.first_own}
use Rattle.pc_tree.specs.Tree as t
use Rattle.pc_base.specs.Lists.{Has, Text}
use Rattle.pc_base.proofs.{Bools.{true_false, no_both}, Elements.{has_on, has_either, has_front, has_behind}, Gets.{get_map, map_get}}
use Rattle.pc_members.specs.{MemberLists.{is_among, entity_named, of_each, abstract_methods, methods_taken_over, taken_over, abstract_members, concrete_members, members}, Members.{field_texts, method_texts, has_added, Member, written, added, without_body, own_texts, is_takable, member_text}, Parts.{added_text, added_if}}
use Rattle.pc_members.proofs.{Differences.{has_among, among_has}, Named.{named_is, one_entity}}
use Rattle.pc_members.specs.Members as chain
use Rattle.pc_file_spec.specs.Laws.{WrittenAbove, TraitsHaveNoBodies, BodiesAreTaken, BodiesAreThere}
use Rattle.pc_names.proofs.Founded.{Adds}
use Rattle.pc_file_spec.proofs.{Collects.{Collects, collects}, Origins.{each_has, provided_trait, taken_has, taken_add, concrete_texts}, Aboves.{names_entity, above_named, written_above}, Bounds.{each_there, named_there}}

-- ---- names that are taken over

-- Texts that are added to others are none of them.
adds_apart : (base xs : List Text) (x : Text) → Adds base xs → Has xs x → Has base x → ⊥
adds_apart base [] x a h g = none-some x h.1
adds_apart base (y ∷ xs) x a (zero, h) g = no_both (is_among x base) (has_among x base g) (subst (λ z. is_among z base ≡ false) (same_Some y x h) a.0)
adds_apart base (y ∷ xs) x a (suc i, h) g = adds_apart (base ++ y ∷ []) xs x a.1 (i, h) (has_front base (y ∷ []) x g)

single : (x y : Text) → Has (x ∷ []) y → x ≡ y
single x y (zero, g) = same_Some x y g
single x y (suc i, g) = absurd (none-some y g)

left_false : (a b : Bool) → a ≡ true → (a && b) ≡ false → b ≡ false
left_false true b e f = f
left_false false b e f = absurd (true_false (sym e))

-- A method that may be taken over is taken over, or its name is known.
taken_named : (k : EntityKind) (known : List Text) (ms : List t.Method) (x : t.Method) → is_takable k x ≡ true → Has ms x → Has known x.name.text ⊎ Has (method_texts (methods_taken_over k known ms)) x.name.text
taken_named k known [] x able h = absurd (none-some x h.1)
taken_named k known (m ∷ ms) x able h = by (λ l g. taken_named k l ms x able g) (is_takable k m && not (is_among m.name.text known)) refl h
  where
    by : ((l : List Text) → Has ms x → Has l x.name.text ⊎ Has (method_texts (methods_taken_over k l ms)) x.name.text) → (b : Bool) → (is_takable k m && not (is_among m.name.text known)) ≡ b → Has (m ∷ ms) x
        → Has known x.name.text
        ⊎ Has (method_texts (if b then m ∷ methods_taken_over k (known ++ m.name.text ∷ []) ms else methods_taken_over k known ms)) x.name.text
    by rest true e (zero, g) = inr (0, ap (λ (y : t.Method). Some y.name.text) (same_Some m x g))
    by rest true e (suc i, g) = elim (rest (known ++ m.name.text ∷ []) (i, g)) [
      | inl a ↦ elim (has_either known (m.name.text ∷ []) x.name.text a) [ inl b ↦ inl b | inr b ↦ inr (0, ap (λ (y : Text). Some y) (single m.name.text x.name.text b)) ]
      | inr a ↦ inr (has_on m.name.text (method_texts (methods_taken_over k (known ++ m.name.text ∷ []) ms)) x.name.text a)
    ]
    by rest false e (zero, g) =
        let same : m ≡ x = same_Some m x g in
        let stands : is_among m.name.text known ≡ true = not-false (is_among m.name.text known) (left_false (is_takable k m) (not (is_among m.name.text known)) (ap (is_takable k) same ∙ able) e) in
        inl (among_has x.name.text known (ap (λ (y : t.Method). is_among y.name.text known) (sym same) ∙ stands))
    by rest false e (suc i, g) = rest known (i, g)

-- ---- the laws

abbrev method_in : Member → Option t.Method
method_in (written m) = Some m
method_in added = None

same_method : (x y : t.Method) → written x ≡ written y → x ≡ y
same_method x y e = same_Some x y (ap method_in e)

pub traits_have_no_bodies : TraitsHaveNoBodies
traits_have_no_bodies file names collected a e h d m g =
    let c : Collects file names.above = collects file names collected in
    let there : Has (abstract_members file.entities e) m = subst (λ ms. Has ms m) (ap (λ b. if b then abstract_members file.entities e else concrete_members file.entities e) d) g in
    let r = map_get (λ (y : t.Method). written (without_body y)) (abstract_methods file.entities e) there.0 m there.1 in
    (r.0, sym r.2, written_above file names.above c (length file.entities) a e r.0 h (there.0, r.1))

taken_above : (file : t.File) (above : List (List ℕ)) → Collects file above → (a : ℕ) (e : t.Entity) (x : t.Method) → slice_get file.entities a ≡ Some e → Has (taken_over file.entities e) x → (is_takable e.kind x ≡ true) × (Has (own_texts e) x.name.text → ⊥) × WrittenAbove file a x
taken_above file above c a e x h g =
    let all = file.entities in
    let there = of_each (abstract_methods all) all e.provides in
    let named = taken_has e.kind (own_texts e) there x g in
    let r = each_has (abstract_methods all) all e.provides x named.0 in
    let s = named_is all r.0.text r.1 r.3 in
    let link : chain.ProvidesInFile file (first_own + a) (first_own + s.0.0) = names_entity file above a e r.1 r.0 s.0.0 c h r.2 s.0.1 s.1 in
    let over = above_named file a s.0.0 r.1 x link s.0.1 (provided_trait file above e r.1 r.0 c (a, h) r.2 s.0 s.1) (written_above file above c (length all) s.0.0 r.1 x s.0.1 r.4) in
    let text : Has (method_texts (taken_over all e)) x.name.text = (g.0, get_map (λ (y : t.Method). y.name.text) (taken_over all e) g.0 x g.1) in
    (named.1, adds_apart (own_texts e) (method_texts (taken_over all e)) x.name.text (taken_add e.kind (own_texts e) there) text, over)

no_added : (b : Bool) (x : t.Method) → Has (added_if b) (written x) → ⊥
no_added true x (zero, h) = none-some x (ap method_in (same_Some added (written x) h))
no_added true x (suc i, h) = none-some (written x) h
no_added false x h = none-some (written x) h.1

pub bodies_are_taken : BodiesAreTaken
bodies_are_taken file names collected a e h d x g =
    let all = file.entities in
    let c : Collects file names.above = collects file names collected in
    let there : Has (concrete_members all e) (written x) = subst (λ ms. Has ms (written x)) (ap (λ b. if b then abstract_members all e else concrete_members all e) d) g in
    elim (has_either (map written e.methods) (added_if (has_added e) ++ map written (taken_over all e)) (written x) there) [
      | inl own ↦ let r = map_get written e.methods own.0 (written x) own.1 in inl (own.0, r.1 ∙ ap (λ (y : t.Method). Some y) (same_method r.0 x r.2))
      | inr rest ↦ elim (has_either (added_if (has_added e)) (map written (taken_over all e)) (written x) rest) [
        | inl k ↦ absurd (no_added (has_added e) x k)
        | inr k ↦ let r = map_get written (taken_over all e) k.0 (written x) k.1 in inr (taken_above file names.above c a e x h (k.0, r.1 ∙ ap (λ (y : t.Method). Some y) (same_method r.0 x r.2)))
      ]
    ]

pub bodies_are_there : BodiesAreThere
bodies_are_there file names collected e f n he d hn hf same x hx able =
    let all = file.entities in
    let c : Collects file names.above = collects file names collected in
    let found = named_there all f hf.0 hf.1 in
    let is = named_is all f.name.text found.0 found.1 in
    let one : found.0 ≡ f = one_entity file found.0 f c.names is.0 hf is.1 in
    let named : entity_named all n.text ≡ Some f = ap (entity_named all) (sym same) ∙ found.1 ∙ ap (λ (y : t.Entity). Some y) one in
    let there : Has (of_each (abstract_methods all) all e.provides) x = each_there (abstract_methods all) all e.provides n f x hn.0 hn.1 named hx in
    let fields = field_texts e.fields in
    let own = method_texts e.methods ++ added_text (has_added e) in
    let over = method_texts (taken_over all e) in
    let whole : (fields ++ own) ++ over ≡ fields ++ map member_text (members all e) = append_assoc fields own over ∙ ap (λ xs. fields ++ xs) (sym (concrete_texts all e d)) in
    subst (λ xs. Has xs x.name.text) whole (elim (taken_named e.kind (own_texts e) (of_each (abstract_methods all) all e.provides) x able there) [ inl a ↦ has_front (own_texts e) over x.name.text a | inr a ↦ has_behind (own_texts e) over x.name.text a ])
