-- The names of a file's methods differ, and every method of a trait or an interface has one of them.
use Rattle.std.proofs.{Common.{◌≡◌, ℕ, zero, suc, List, [], ◌∷◌, ◌++◌, Some, Bool, true, false, refl, ap, ◌∙◌, inl, inr, if◌then◌else◌}, lemmas.Option.{same_Some, none-some}, lemmas.Bool.{or_left, or_right}}
use Rattle.std.specs.Prelude.{slice_get, Option, None}
use Rattle.pc_base.specs.Lists.{Has, Differ, Text}
use Rattle.pc_base.proofs.{Elements.{differ_none, has_on, has_either}, Gets.get_map}
use Rattle.pc_tree.specs.declared.written_names.Name.{Name}
use Rattle.pc_tree.specs.Tree as t
use Rattle.pc_members.specs.{MemberLists.{is_among, with_names, firsts, entity_named, of_each, trait_methods}, Parts.of_entity, Members.method_texts}
use Rattle.pc_members.proofs.{Differences.{names_differ, among_has, has_among}, Completed.{among_parts, names_known}, Named.named_is}
use Rattle.pc_member_counts.specs.Numbers.{method_names}
use Rattle.pc_member_counts.proofs.Picks.{Covered}

differ_on : (known : List Text) (es : List t.Entity) → Differ known → Differ (method_names known es)
differ_on known [] d = d
differ_on known (e ∷ es) d = differ_on (with_names known (method_texts e.methods)) es (names_differ (method_texts e.methods) known d)

pub method_names_differ : (es : List t.Entity) → Differ (method_names [] es)
method_names_differ es = differ_on [] es differ_none

known_on : (x : Text) (known xs : List Text) → is_among x known ≡ true → is_among x (with_names known xs) ≡ true
known_on x known xs e = names_known known xs x ∙ among_parts x known xs ∙ or_left (is_among x known) (is_among x xs) e

kept : (x : Text) (known : List Text) (es : List t.Entity) → is_among x known ≡ true → is_among x (method_names known es) ≡ true
kept x known [] e = e
kept x known (f ∷ es) e = kept x (with_names known (method_texts f.methods)) es (known_on x known (method_texts f.methods) e)

named : (ms : List t.Method) (m : t.Method) → Has ms m → is_among m.name.text (method_texts ms) ≡ true
named ms m h = has_among m.name.text (method_texts ms) (h.0, get_map (λ (z : t.Method). z.name.text) ms h.0 m h.1)

own_named : (known : List Text) (es : List t.Entity) (e : t.Entity) (m : t.Method) (i : ℕ) → slice_get es i ≡ Some e → Has e.methods m → is_among m.name.text (method_names known es) ≡ true
own_named known [] e m i h g = absurd (none-some e h)
own_named known (f ∷ es) e m zero h g =
    kept m.name.text (with_names known (method_texts f.methods)) es
    (names_known known (method_texts f.methods) m.name.text ∙ among_parts m.name.text known (method_texts f.methods)
    ∙ or_right (is_among m.name.text known) (is_among m.name.text (method_texts f.methods)) (ap (λ (z : t.Entity). is_among m.name.text (method_texts z.methods)) (same_Some f e h) ∙ named e.methods m g))
own_named known (f ∷ es) e m (suc i) h g = own_named (with_names known (method_texts f.methods)) es e m i h g

pub own_covered : (es : List t.Entity) (e : t.Entity) → Has es e → Covered (method_names [] es) e.methods
own_covered es e h m g = among_has m.name.text (method_names [] es) (own_named [] es e m h.0 h.1 g)

-- ---- the methods of traits

of_firsts : (known : List Text) (ms : List t.Method) (m : t.Method) → Has (firsts known ms) m → Has ms m
of_firsts known [] m h = h
of_firsts known (n ∷ ms) m h = by (λ ks g. of_firsts ks ms m g) (is_among n.name.text known) h
  where
    first_or : ((ks : List Text) → Has (firsts ks ms) m → Has ms m) → (i : ℕ) → slice_get (n ∷ firsts (known ++ n.name.text ∷ []) ms) i ≡ Some m → Has (n ∷ ms) m
    first_or rest zero g = (0, g)
    first_or rest (suc i) g = has_on n ms m (rest (known ++ n.name.text ∷ []) (i, g))

    by : ((ks : List Text) → Has (firsts ks ms) m → Has ms m) → (b : Bool) → Has (if b then firsts known ms else n ∷ firsts (known ++ n.name.text ∷ []) ms) m → Has (n ∷ ms) m
    by rest true g = has_on n ms m (rest known g)
    by rest false g = first_or rest g.0 g.1

module _ (all : List t.Entity) (f : t.Entity → List t.Method) (names : List Text) (c : (e : t.Entity) → Has all e → Covered names (f e)) where
  one_covered : (o : Option t.Entity) → ((e : t.Entity) → o ≡ Some e → Has all e) → Covered names (of_entity f o)
  one_covered None h m g = absurd (none-some m g.1)
  one_covered (Some e) h m g = c e (h e refl) m g

  pub each_covered : (ns : List Name) → Covered names (of_each f all ns)
  each_covered [] m g = absurd (none-some m g.1)
  each_covered (n ∷ ns) m g = elim (has_either (of_entity f (entity_named all n.text)) (of_each f all ns) m g) [
    | inl a ↦ one_covered (entity_named all n.text) (λ e h. (named_is all n.text e h).0) m a
    | inr b ↦ each_covered ns m b
  ]

parts_covered : (names : List Text) (xs ys : List t.Method) → Covered names xs → Covered names ys → Covered names (xs ++ ys)
parts_covered names xs ys c d m h = elim (has_either xs ys m h) [ inl a ↦ c m a | inr b ↦ d m b ]

pub trait_covered : (es : List t.Entity) (k : ℕ) (e : t.Entity) → Has es e → Covered (method_names [] es) (trait_methods k es e)
trait_covered es zero e h m g = absurd (none-some m g.1)
trait_covered es (suc k) e h m g =
    parts_covered (method_names [] es) e.methods (of_each (trait_methods k es) es e.provides) (own_covered es e h) (each_covered es (trait_methods k es) (method_names [] es) (λ f q. trait_covered es k f q) e.provides) m
    (of_firsts [] (e.methods ++ of_each (trait_methods k es) es e.provides) m g)

pub whole_covered : (es : List t.Entity) (k : ℕ) (e : t.Entity) → Has es e → Covered (method_names [] es) (e.methods ++ of_each (trait_methods k es) es e.provides)
whole_covered es k e h =
    parts_covered (method_names [] es) e.methods (of_each (trait_methods k es) es e.provides) (own_covered es e h) (each_covered es (trait_methods k es) (method_names [] es) (λ f q. trait_covered es k f q) e.provides)
