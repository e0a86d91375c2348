-- Where the members of an entity come from.
use Rattle.std.proofs.{Common.{◌≡◌, ℕ, zero, suc, ◌&&◌, List, [], ◌∷◌, ◌++◌, length, map, Option, Some, None, Bool, true, false, not, refl, sym, ap, ◌∙◌, subst, if◌then◌else◌, inl, inr, append-nil}, lemmas.Bool.not-true, lemmas.Option.{same_Some, none-some}, lemmas.List.{append_assoc, map-append}}
use Rattle.std.specs.Prelude.{◌⊎◌, codes}
use Rattle.pc_tree.specs.{declared.kinds.EntityKind.EntityKind, declared.written_names.Name.Name, Kinds.{is_abstract, may_stand, FieldsIf}, Members.MayHaveFields}
use Rattle.pc_tree.specs.declared.kinds.EntityKind.TheVariants as kind
use Rattle.pc_tree.specs.declared.kinds.MethodWord.TheVariants as word
use Rattle.pc_tree.specs.Tree as t
use Rattle.pc_tree.proofs.KindFacts.{created, no_fields}
use Rattle.pc_base.specs.Lists.{Has, Differ, Text}
use Rattle.pc_base.proofs.{Gets.map_get, Bools.{true_false, first_true, second_true}, Elements.{has_on, has_either, differ_none}}
use Rattle.pc_members.specs.{MemberLists.{is_among, firsts, entity_named, of_each, trait_methods, abstract_methods, methods_taken_over, taken_over, abstract_members, concrete_members, members}, Parts.{of_entity, added_text, added_if}, Members.{has_added, has_constructor, field_texts, method_texts, Member, written, added, without_body, own_texts, is_takable, member_text}}
use Rattle.pc_members.proofs.{Differences.differ_push, Named.{named_is, one_entity, is_trait_named}}
use Rattle.pc_file_spec.specs.Order.{InPlace}
use Rattle.pc_names.proofs.Founded.{Adds, adds_differ}
use Rattle.pc_file_spec.proofs.Collects.{Collects}

-- ---- the first with each name

pub firsts_has : (known : List Text) (ms : List t.Method) (x : t.Method) → Has (firsts known ms) x → Has ms x
firsts_has known [] x h = h
firsts_has known (m ∷ ms) x h = by (λ k g. firsts_has k ms x g) (is_among m.name.text known) h
  where
    first : (rest : List t.Method) → (Has rest x → Has ms x) → Has (m ∷ rest) x → Has (m ∷ ms) x
    first rest f (zero, g) = (0, g)
    first rest f (suc i, g) = has_on m ms x (f (i, g))

    by : ((k : List Text) → Has (firsts k ms) x → Has ms x) → (b : Bool) → Has (if b then firsts known ms else m ∷ firsts (known ++ m.name.text ∷ []) ms) x → Has (m ∷ ms) x
    by rest true g = has_on m ms x (rest known g)
    by rest false g = first (firsts (known ++ m.name.text ∷ []) ms) (rest (known ++ m.name.text ∷ [])) g

pub firsts_add : (known : List Text) (ms : List t.Method) → Adds known (method_texts (firsts known ms))
firsts_add known [] = tt
firsts_add known (m ∷ ms) = by (λ k. firsts_add k ms) (is_among m.name.text known) refl
  where
    by : ((k : List Text) → Adds k (method_texts (firsts k ms))) → (b : Bool) → is_among m.name.text known ≡ b → Adds known (method_texts (if b then firsts known ms else m ∷ firsts (known ++ m.name.text ∷ []) ms))
    by rest true e = rest known
    by rest false e = (e, rest (known ++ m.name.text ∷ []))

-- ---- traits

-- What an `is` list names is a trait of the file.
pub provided_trait : (file : t.File) (above : List (List ℕ)) (e f : t.Entity) (n : Name) → Collects file above → Has file.entities e → Has e.provides n → Has file.entities f → f.name.text ≡ n.text → is_abstract f.kind ≡ true
provided_trait file above e f n c he hn hf same =
    let r = is_trait_named file.entities n.text ((c.sound e he).provides n hn) in
    let one : r.0 ≡ f = one_entity file r.0 f c.names r.1 hf (r.3 ∙ sym same) in
    subst (λ (y : t.Entity). is_abstract y.kind ≡ true) one r.2

-- ---- the methods of traits

pub each_has : (methods : t.Entity → List t.Method) (all : List t.Entity) (ns : List Name) (x : t.Method) → Has (of_each methods all ns) x → (n : Name) × (f : t.Entity) × Has ns n × (entity_named all n.text ≡ Some f) × Has (methods f) x
each_has methods all [] x h = absurd (none-some x h.1)
each_has methods all (n ∷ ns) x h = by (λ g. each_has methods all ns x g) (entity_named all n.text) refl (has_either (of_entity methods (entity_named all n.text)) (of_each methods all ns) x h)
  where
    further : ((m : Name) × (f : t.Entity) × Has ns m × (entity_named all m.text ≡ Some f) × Has (methods f) x) → (m : Name) × (f : t.Entity) × Has (n ∷ ns) m × (entity_named all m.text ≡ Some f) × Has (methods f) x
    further r = (r.0, r.1, has_on n ns r.0 r.2, r.3, r.4)

    by : (Has (of_each methods all ns) x → (m : Name) × (f : t.Entity) × Has ns m × (entity_named all m.text ≡ Some f) × Has (methods f) x) → (o : Option t.Entity) → entity_named all n.text ≡ o → Has (of_entity methods o) x ⊎ Has (of_each methods all ns) x
        → (m : Name) × (f : t.Entity) × Has (n ∷ ns) m × (entity_named all m.text ≡ Some f) × Has (methods f) x
    by rest o e (inr g) = further (rest g)
    by rest None e (inl g) = absurd (none-some x g.1)
    by rest (Some f) e (inl g) = (n, f, (0, refl), e, g)

-- A trait's method is written in a trait.
pub written_in : (file : t.File) (above : List (List ℕ)) → Collects file above → (k : ℕ) (e : t.Entity) (x : t.Method) → Has file.entities e → is_abstract e.kind ≡ true → Has (trait_methods k file.entities e) x
    → (f : t.Entity) × Has file.entities f × Has f.methods x × (is_abstract f.kind ≡ true)
written_in file above c zero e x he k h = absurd (none-some x h.1)
written_in file above c (suc k) e x he is h = elim (has_either e.methods (of_each (trait_methods k file.entities) file.entities e.provides) x (firsts_has [] (e.methods ++ of_each (trait_methods k file.entities) file.entities e.provides) x h)) [
  | inl own ↦ (e, he, own, is)
  | inr other ↦
      let r = each_has (trait_methods k file.entities) file.entities e.provides x other in
      let s = named_is file.entities r.0.text r.1 r.3 in
      written_in file above c k r.1 x s.0 (provided_trait file above e r.1 r.0 c he r.2 s.0 s.1) r.4
]

-- ---- the methods that are taken over

pub taken_has : (k : EntityKind) (known : List Text) (ms : List t.Method) (x : t.Method) → Has (methods_taken_over k known ms) x
    → Has ms x × (is_takable k x ≡ true)
taken_has k known [] x h = absurd (none-some x h.1)
taken_has k known (m ∷ ms) x h = by (λ l g. taken_has k l ms x g) (is_takable k m && not (is_among m.name.text known)) refl h
  where
    first : (rest : List t.Method) → is_takable k m ≡ true → (Has rest x → Has ms x × (is_takable k x ≡ true)) → Has (m ∷ rest) x → Has (m ∷ ms) x × (is_takable k x ≡ true)
    first rest e f (zero, g) = ((0, g), subst (λ y. is_takable k y ≡ true) (same_Some m x g) e)
    first rest e f (suc i, g) = let r = f (i, g) in (has_on m ms x r.0, r.1)

    by : ((l : List Text) → Has (methods_taken_over k l ms) x → Has ms x × (is_takable k x ≡ true)) → (b : Bool) → (is_takable k m && not (is_among m.name.text known)) ≡ b
        → Has (if b then m ∷ methods_taken_over k (known ++ m.name.text ∷ []) ms else methods_taken_over k known ms) x
        → Has (m ∷ ms) x × (is_takable k x ≡ true)
    by rest true e g = first (methods_taken_over k (known ++ m.name.text ∷ []) ms) (first_true (is_takable k m) (not (is_among m.name.text known)) e) (rest (known ++ m.name.text ∷ [])) g
    by rest false e g = let r = rest known g in (has_on m ms x r.0, r.1)

pub taken_add : (k : EntityKind) (known : List Text) (ms : List t.Method) → Adds known (method_texts (methods_taken_over k known ms))
taken_add k known [] = tt
taken_add k known (m ∷ ms) = by (λ l. taken_add k l ms) (is_takable k m && not (is_among m.name.text known)) refl
  where
    by : ((l : List Text) → Adds l (method_texts (methods_taken_over k l ms))) → (b : Bool) → (is_takable k m && not (is_among m.name.text known)) ≡ b → Adds known (method_texts (if b then m ∷ methods_taken_over k (known ++ m.name.text ∷ []) ms else methods_taken_over k known ms))
    by rest true e = (not-true (is_among m.name.text known) (second_true (is_takable k m) (not (is_among m.name.text known)) e), rest (known ++ m.name.text ∷ []))
    by rest false e = rest known

-- A method that is taken over is written in a trait.
taken_from : (file : t.File) (above : List (List ℕ)) (e : t.Entity) (x : t.Method) → Collects file above → Has file.entities e → Has (taken_over file.entities e) x
    → (f : t.Entity) × Has file.entities f × Has f.methods x × (is_abstract f.kind ≡ true) × (is_takable e.kind x ≡ true)
taken_from file above e x c he h =
    let named = taken_has e.kind (own_texts e) (of_each (abstract_methods file.entities) file.entities e.provides) x h in
    let r = each_has (abstract_methods file.entities) file.entities e.provides x named.0 in
    let s = named_is file.entities r.0.text r.1 r.3 in
    let w = written_in file above c (length file.entities) r.1 x s.0 (provided_trait file above e r.1 r.0 c he r.2 s.0 s.1) r.4 in
    (w.0, w.1, w.2, w.3, named.1)

-- ---- the methods of entities

-- A method x of an entity comes from a source in another or in itself: a trait has it without its body, and another
-- entity has its own methods and those that it takes over from traits.
pub data Comes (e origin : t.Entity) (source x : t.Method) : Type 0 where
  as_declared : is_abstract e.kind ≡ true → is_abstract origin.kind ≡ true → without_body source ≡ x → Comes e origin source x
  as_own : is_abstract e.kind ≡ false → origin ≡ e → source ≡ x → Comes e origin source x
  as_taken : is_abstract e.kind ≡ false → is_abstract origin.kind ≡ true → is_takable e.kind x ≡ true → source ≡ x → Comes e origin source x

-- Where a method of an entity is written. Only its body may differ there.
pub record Origin (file : t.File) (e : t.Entity) (x : t.Method) : Type 0 where
  pub origin : t.Entity
  pub is_entity : Has file.entities origin
  pub source : t.Method
  pub is_method : Has origin.methods source
  pub same : without_body source ≡ without_body x
  pub comes : Comes e origin source x

-- A member is written, or added.
abbrev pub Sort : t.File → t.Entity → Member → Type 0
Sort file e (written x) = Origin file e x
Sort file e added = has_added e ≡ true

abstract_sort : (file : t.File) (above : List (List ℕ)) (e : t.Entity) (m : Member) → Collects file above → Has file.entities e → is_abstract e.kind ≡ true → Has (abstract_members file.entities e) m → Sort file e m
abstract_sort file above e m c he d h =
    let r = map_get (λ (y : t.Method). written (without_body y)) (abstract_methods file.entities e) h.0 m h.1 in
    let w = written_in file above c (length file.entities) e r.0 he d (h.0, r.1) in
    let o : Origin file e (without_body r.0) = record { origin = w.0; is_entity = w.1; source = r.0; is_method = w.2; same = refl; comes = as_declared d w.3 refl } in
    subst (λ y. Sort file e y) r.2 o

added_sort : (file : t.File) (e : t.Entity) (b : Bool) → has_added e ≡ b → (m : Member) → Has (added_if b) m → Sort file e m
added_sort file e true d m (zero, g) = subst (λ y. Sort file e y) (same_Some added m g) d
added_sort file e true d m (suc i, g) = absurd (none-some m g)
added_sort file e false d m g = absurd (none-some m g.1)

concrete_sort : (file : t.File) (above : List (List ℕ)) (e : t.Entity) (m : Member) → Collects file above → Has file.entities e → is_abstract e.kind ≡ false → Has (concrete_members file.entities e) m → Sort file e m
concrete_sort file above e m c he d h = elim (has_either (map written e.methods) (added_if (has_added e) ++ map written (taken_over file.entities e)) m h) [
  | inl a ↦
      let r = map_get written e.methods a.0 m a.1 in
      let o : Origin file e r.0 = record { origin = e; is_entity = he; source = r.0; is_method = (a.0, r.1); same = refl; comes = as_own d refl refl } in
      subst (λ y. Sort file e y) r.2 o
  | inr b ↦ elim (has_either (added_if (has_added e)) (map written (taken_over file.entities e)) m b) [
    | inl a ↦ added_sort file e (has_added e) refl m a
    | inr k ↦
        let r = map_get written (taken_over file.entities e) k.0 m k.1 in
        let w = taken_from file above e r.0 c he (k.0, r.1) in
        let o : Origin file e r.0 = record { origin = w.0; is_entity = w.1; source = r.0; is_method = w.2; same = refl; comes = as_taken d w.3 w.4 refl } in
        subst (λ y. Sort file e y) r.2 o
  ]
]

pub sort_of : (file : t.File) (above : List (List ℕ)) (e : t.Entity) (m : Member) → Collects file above → Has file.entities e → Has (members file.entities e) m → Sort file e m
sort_of file above e m c he h = by (is_abstract e.kind) refl h
  where
    by : (b : Bool) → is_abstract e.kind ≡ b → Has (if b then abstract_members file.entities e else concrete_members file.entities e) m → Sort file e m
    by true d g = abstract_sort file above e m c he d g
    by false d g = concrete_sort file above e m c he d g

-- ---- their names

texts_written : (ms : List t.Method) → map member_text (map written ms) ≡ method_texts ms
texts_written [] = refl
texts_written (m ∷ ms) = ap (λ xs. m.name.text ∷ xs) (texts_written ms)

texts_declared : (ms : List t.Method) → map member_text (map (λ (m : t.Method). written (without_body m)) ms) ≡ method_texts ms
texts_declared [] = refl
texts_declared (m ∷ ms) = ap (λ xs. m.name.text ∷ xs) (texts_declared ms)

texts_added : (b : Bool) → map member_text (added_if b) ≡ added_text b
texts_added true = refl
texts_added false = refl

-- The names of a trait's members are those of its methods.
pub abstract_texts : (all : List t.Entity) (e : t.Entity) → is_abstract e.kind ≡ true → map member_text (members all e) ≡ method_texts (abstract_methods all e)
abstract_texts all e d = ap (λ b. map member_text (if b then abstract_members all e else concrete_members all e)) d ∙ texts_declared (abstract_methods all e)

-- Those of another entity's members are its own, and those of the methods that it takes over.
pub concrete_texts : (all : List t.Entity) (e : t.Entity) → is_abstract e.kind ≡ false → map member_text (members all e) ≡ (method_texts e.methods ++ added_text (has_added e)) ++ method_texts (taken_over all e)
concrete_texts all e d =
    let over = taken_over all e in
    let behind : map member_text (added_if (has_added e) ++ map written over) ≡ added_text (has_added e) ++ method_texts over =
    map-append member_text (added_if (has_added e)) (map written over) ∙ ap (λ xs. xs ++ map member_text (map written over)) (texts_added (has_added e)) ∙ ap (λ xs. added_text (has_added e) ++ xs) (texts_written over) in
    ap (λ b. map member_text (if b then abstract_members all e else concrete_members all e)) d
    ∙ map-append member_text (map written e.methods) (added_if (has_added e) ++ map written over)
    ∙ ap (λ xs. xs ++ map member_text (added_if (has_added e) ++ map written over)) (texts_written e.methods)
    ∙ ap (λ xs. method_texts e.methods ++ xs) behind
    ∙ sym (append_assoc (method_texts e.methods) (added_text (has_added e)) (method_texts over))

-- Traits have no fields.
pub fieldless : (k : EntityKind) (fs : List t.Field) → is_abstract k ≡ true → MayHaveFields k fs → fs ≡ []
fieldless k fs h m = subst (λ b. FieldsIf b fs) (no_fields k h) m

-- Traits get no added `create`.
pub added_kind : (e : t.Entity) → has_added e ≡ true → (e.kind ≡ kind.Class) ⊎ (e.kind ≡ kind.Actor)
added_kind e h = by (has_constructor e) h
  where
    by : (b : Bool) → (if b then false else may_stand e.kind word.New) ≡ true → (e.kind ≡ kind.Class) ⊎ (e.kind ≡ kind.Actor)
    by true g = absurd (true_false (sym g))
    by false g = created e.kind g

trait_differ : (k : ℕ) (all : List t.Entity) (e : t.Entity) → Differ (method_texts (trait_methods k all e))
trait_differ zero all e = differ_none
trait_differ (suc k) all e = adds_differ [] (method_texts (firsts [] (e.methods ++ of_each (trait_methods k all) all e.provides))) differ_none (firsts_add [] (e.methods ++ of_each (trait_methods k all) all e.provides))

-- An entity's own names differ,
own_differ : (file : t.File) (above : List (List ℕ)) (e : t.Entity) → Collects file above → Has file.entities e → Differ (own_texts e)
own_differ file above e c he = by (has_added e) refl
  where
    fields : List Text
    fields = field_texts e.fields

    own : List Text
    own = method_texts e.methods

    by : (b : Bool) → has_added e ≡ b → Differ (fields ++ (own ++ added_text b))
    by false d = subst (λ xs. Differ (fields ++ xs)) (sym (append-nil own)) (c.sound e he).differ
    by true d = subst (λ xs. Differ xs) (append_assoc fields own (codes "create" ∷ [])) (differ_push (codes "create") (fields ++ own) (c.sound e he).differ ((c.sound e he).added d))

-- and so do those of its fields and members.
pub members_differ : (file : t.File) (above : List (List ℕ)) (e : t.Entity) → Collects file above → InPlace file → Has file.entities e → Differ (field_texts e.fields ++ map member_text (members file.entities e))
members_differ file above e c p he = by (is_abstract e.kind) refl
  where
    all : List t.Entity
    all = file.entities

    by : (b : Bool) → is_abstract e.kind ≡ b → Differ (field_texts e.fields ++ map member_text (members all e))
    by true d = subst (λ fs. Differ (field_texts fs ++ map member_text (members all e))) (sym (fieldless e.kind e.fields d (p e he).0)) (subst (λ xs. Differ xs) (sym (abstract_texts all e d)) (trait_differ (length all) all e))
    by false d =
        let fields = field_texts e.fields in
        let own = method_texts e.methods ++ added_text (has_added e) in
        let over = method_texts (taken_over all e) in
        let spread : Differ (own_texts e ++ over) = adds_differ (own_texts e) over (own_differ file above e c he) (taken_add e.kind (own_texts e) (of_each (abstract_methods all) all e.provides)) in
        subst (λ xs. Differ xs) (append_assoc fields own over ∙ ap (λ xs. fields ++ xs) (sym (concrete_texts all e d))) spread
