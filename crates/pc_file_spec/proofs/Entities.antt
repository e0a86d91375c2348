-- The entities of a file's core fit.
use Rattle.std.proofs.{Common.{◌≡◌, ℕ, zero, suc, ◌+◌, ◌-◌, ◌<◌, ◌≤◌, List, [], ◌∷◌, ◌++◌, length, map, Some, None, Bool, true, false, refl, sym, ap, ◌∙◌, subst, arith, inl, inr}, lemmas.Option.{same_Some, none-some, slice_get-get_or}, lemmas.List.length-map, lemmas.List.Quantifiers.position-Some}
use Rattle.std.specs.{Prelude.{slice_get, slice_range, ◌⊎◌, codes, position, replicate}, Str.bytes_eq}
use Rattle.pc_caps.specs.declared.capability.Cap.TheVariants as cap
use Rattle.pc_base.proofs.{Gets.{get_front, get_below, get_within, append_get, get_append, get_map, map_get, get_range}, Elements.{has_front, has_behind, each_none, ascends_none}}
use Rattle.pc_tree.specs.declared.kinds.EntityKind.TheVariants as kind
use Rattle.pc_tree.specs.Kinds.{may_have_fields, FieldsIf, first_own}
use Rattle.pc_tree.specs.Tree as t
use Rattle.pc_core.specs.{declared.declarations.EntityDef.EntityDef, declared.declarations.FieldInfo.FieldInfo, declared.declarations.Method.Method, CoreData.{CoreData, own_methods}, Parts.{field_name, method_name}, Entities.{built_in, built_in_value, out_field, print_method, Provides, Leads, one, more}, Further.IsAbstract, EntityFits.EntityFits}
use Rattle.pc_base.specs.Lists.{Each, Has, Differ, Ascends, IsIn, Text}
use Rattle.pc_members.specs.{Members.{built_in_names, texts_of, entity_names, field_texts, method_texts, IsAbove, Member, written, added, member_text}, Parts.or_nil, Edges.entity_numbers, MemberLists.members}
use Rattle.pc_members.specs.Members as chain
use Rattle.pc_members.proofs.{Differences.equal_texts, Named.is_trait_named, Closings.{numbers_only, numbers_all, no_entity}}
use Rattle.pc_file_spec.specs.Cores.{Owned, owned, Parts, core_with, built_ins, core_entity, core_field}
use Rattle.pc_file_spec.specs.Cores as known
use Rattle.pc_body_spec.specs.Bodies.{text_from}
use Rattle.pc_file_spec.proofs.{Tables.{text_below, one_text, language_kept, member_there}, Owners.{starts, own_member}, Collects.Sound, Origins.{members_differ, Sort, sort_of}, Types.type_below, Parts.At, Settings.{Setting, all_members, entities_length, entity_get, entity_cases, print_get, method_at, at_get}}

-- ---- lists

is_in_has : (b : ℕ) (xs : List ℕ) → IsIn b xs → Has xs b
is_in_has b [] h = absurd h
is_in_has b (x ∷ xs) (inl e) = (0, ap (λ y. Some y) (sym e))
is_in_has b (x ∷ xs) (inr h) = let r = is_in_has b xs h in (suc r.0, r.1)

has_is_in : (b : ℕ) (xs : List ℕ) (i : ℕ) → slice_get xs i ≡ Some b → IsIn b xs
has_is_in b [] i h = absurd (none-some b h)
has_is_in b (x ∷ xs) zero h = inl (sym (same_Some x b h))
has_is_in b (x ∷ xs) (suc i) h = inr (has_is_in b xs i h)

pub position_get : (x : Text) (xs : List Text) (b : ℕ) → position (bytes_eq x) xs ≡ Some b → slice_get xs b ≡ Some x
position_get x xs b h =
    let p = position-Some (bytes_eq x) xs b [] h in
    slice_get-get_or xs b [] p.0 ∙ ap (λ y. Some y) (sym (equal_texts x _ p.1))

-- ---- the built-in entities

six : (P : ℕ → EntityDef → Type 0) → P 0 (built_in_value (codes "None")) → P 1 (built_in_value (codes "U64")) → P 2 (built_in_value (codes "Bool")) → P 3 (built_in_value (codes "String"))
    → P 4 (built_in kind.Class cap.Val (codes "Env") (out_field 0 ∷ []) 0) → P 5 (built_in kind.Actor cap.Tag (codes "OutStream") [] 1) → (n : ℕ) (x : EntityDef) → slice_get built_ins n ≡ Some x → P n x
six P a b c d e f zero x h = subst (P 0) (same_Some _ x h) a
six P a b c d e f (suc zero) x h = subst (P 1) (same_Some _ x h) b
six P a b c d e f (suc (suc zero)) x h = subst (P 2) (same_Some _ x h) c
six P a b c d e f (suc (suc (suc zero))) x h = subst (P 3) (same_Some _ x h) d
six P a b c d e f (suc (suc (suc (suc zero)))) x h = subst (P 4) (same_Some _ x h) e
six P a b c d e f (suc (suc (suc (suc (suc zero))))) x h = subst (P 5) (same_Some _ x h) f
six P a b c d e f (suc (suc (suc (suc (suc (suc n)))))) x h = absurd (none-some x h)

-- ---- names between entities

pub own_entity : (file : t.File) (i : ℕ) (e : t.Entity) → slice_get file.entities i ≡ Some e → chain.entity_at file (first_own + i) e
own_entity file i e h = get_append (replicate first_own None) (map Some file.entities) i ∙ get_map Some file.entities i e h

built_in_none : (n : ℕ) (e : t.Entity) → slice_get (replicate first_own None) n ≡ Some (Some e) → ⊥
built_in_none zero e h = no_entity e h
built_in_none (suc zero) e h = no_entity e h
built_in_none (suc (suc zero)) e h = no_entity e h
built_in_none (suc (suc (suc zero))) e h = no_entity e h
built_in_none (suc (suc (suc (suc zero)))) e h = no_entity e h
built_in_none (suc (suc (suc (suc (suc zero))))) e h = no_entity e h
built_in_none (suc (suc (suc (suc (suc (suc n)))))) e h = none-some (Some e) h

pub entity_own : (file : t.File) (a : ℕ) (e : t.Entity) → chain.entity_at file a e → (i : ℕ) × (a ≡ first_own + i) × (slice_get file.entities i ≡ Some e)
entity_own file a e h = elim (append_get (replicate first_own None) (map Some file.entities) a (Some e) h) [
  | inl b ↦ absurd (built_in_none a e b)
  | inr b ↦
      let low : first_own ≤ a = b.0 in
      let r = map_get Some file.entities (a - first_own) (Some e) b.1 in
      (a - first_own, omega (arith, low), r.1 ∙ r.2)
]

module _ (file : t.File) (above : List (List ℕ)) (q : Parts) (s : Setting file above q) where
  abbrev core : CoreData
  core = core_with file above q

  names_to : (a b : ℕ) → chain.ProvidesInFile file a b → Provides core a b
  names_to a b x =
      let r = entity_own file a x.0 x.1 in
      let n = x.2.0 in
      let at : slice_get core.entities a ≡ Some (core_entity file above (first_own + r.0) (1 + starts file.entities file.entities r.0) x.0) = ap (slice_get core.entities) r.1 ∙ entity_get file above q r.0 x.0 r.2 in
      (core_entity file above (first_own + r.0) (1 + starts file.entities file.entities r.0) x.0, at, is_in_has b (entity_numbers (entity_names file) x.0.provides) (numbers_all (entity_names file) x.0.provides n b x.2.1.0 x.2.1.1 x.2.2))

  no_provides : (n : ℕ) (x : EntityDef) → slice_get built_ins n ≡ Some x → x.provides ≡ []
  no_provides = six (λ n x. x.provides ≡ []) refl refl refl refl refl refl

  nothing_in : {T : Type 0} (xs : List T) (b : T) → xs ≡ [] → Has xs b → T
  nothing_in xs b e h = absurd (none-some b (ap (λ ys. slice_get ys h.0) (sym e) ∙ h.1))

  names_of : (a b : ℕ) → Provides core a b → chain.ProvidesInFile file a b
  names_of a b x = elim (entity_cases file above q a x.0 x.1) [
    | inl c ↦ absurd (none-some b (ap (λ ys. slice_get ys x.2.0) (sym (no_provides a x.0 c)) ∙ x.2.1))
    | inr f ↦
        let there : slice_get (entity_numbers (entity_names file) f.entity.provides) x.2.0 ≡ Some b = ap (λ (y : EntityDef). slice_get y.provides x.2.0) f.same ∙ x.2.1 in
        let named = numbers_only (entity_names file) f.entity.provides b (has_is_in b (entity_numbers (entity_names file) f.entity.provides) x.2.0 there) in
        (f.entity, subst (λ n. chain.entity_at file n f.entity) (sym f.number) (own_entity file f.place f.entity f.is_entity), named)
  ]

  leads_to : {a b : ℕ} → chain.LeadsInFile file a b → Leads core a b
  leads_to {a} {b} (chain.one h) = one (names_to a b h)
  leads_to {a} (chain.more {b = d} h r) = more (names_to a d h) (leads_to r)

  leads_of : {a b : ℕ} → Leads core a b → chain.LeadsInFile file a b
  leads_of {a} {b} (one h) = chain.one (names_of a b h)
  leads_of {a} (more {b = d} h r) = chain.more (names_of a d h) (leads_of r)

  -- ---- the built-in entities

  no_lead : (n b : ℕ) (x : EntityDef) → slice_get built_ins n ≡ Some x → Leads core n b → ⊥
  no_lead n b x h (one y) =
      let same : x ≡ y.0 = same_Some x y.0 (sym (get_front built_ins _ n x h) ∙ y.1) in
      none-some b (ap (λ ys. slice_get ys y.2.0) (sym (no_provides n x h)) ∙ ap (λ (z : EntityDef). slice_get z.provides y.2.0) same ∙ y.2.1)
  no_lead n b x h (more {b = d} y r) =
      let same : x ≡ y.0 = same_Some x y.0 (sym (get_front built_ins _ n x h) ∙ y.1) in
      none-some d (ap (λ ys. slice_get ys y.2.0) (sym (no_provides n x h)) ∙ ap (λ (z : EntityDef). slice_get z.provides y.2.0) same ∙ y.2.1)

  value_fits : (n : ℕ) (name : List ℕ) → slice_get built_ins n ≡ Some (built_in_value name) → EntityFits core n (built_in_value name)
  value_fits n name h = record {
    provides = each_none _;
    ascends = ascends_none;
    above = λ b. (λ g. absurd (none-some b g.1), λ l. absurd (no_lead n b (built_in_value name) h l));
    few_fields = omega arith;
    placed_fields = inl refl;
    fields = each_none _;
    names = λ i j x g k. absurd (none-some x g);
    methods = each_none _;
  }

  env_fits : EntityFits core 4 (built_in kind.Class cap.Val (codes "Env") (out_field 0 ∷ []) 0)
  env_fits =
      let size = entities_length file above q in
      record {
        provides = each_none _;
        ascends = ascends_none;
        above = λ b. (λ g. absurd (none-some b g.1), λ l. absurd (no_lead 4 b _ refl l));
        few_fields = omega arith;
        placed_fields = inr refl;
        fields = first;
        names = differ;
        methods = each_none _;
      }
    where
      first : Each (λ i f. (f.name < length core.names) × (f.entity < length core.entities)) (out_field 0 ∷ [])
      first zero f h =
          let some_text = get_below core.names 0 (codes "out") (language_kept file 0 (codes "out") refl) in
          let size = entities_length file above q in
          subst (λ (g : FieldInfo). (g.name < length core.names) × (g.entity < length core.entities)) (same_Some _ f h) (some_text, omega (arith, size))
      first (suc i) f h = absurd (none-some f h)

      differ : Differ {T = ℕ} (0 ∷ [])
      differ zero zero x g h = refl
      differ zero (suc j) x g h = absurd (none-some x h)
      differ (suc i) j x g h = absurd (none-some x g)

  stream_method : (i : ℕ) (m : Method) → slice_get (slice_range q.methods 0 1) i ≡ Some m → (i ≡ 0) × (print_method 1 ≡ m)
  stream_method i m h =
      let r = get_range q.methods 0 1 i m h in
      let l : 0 + i < 1 = r.0 in
      let z : i ≡ 0 = omega (arith, l) in
      let k : 0 ≡ 0 + i = omega (arith, l) in
      (z, same_Some (print_method 1) m (sym (print_get file above q s) ∙ ap (slice_get q.methods) k ∙ r.1))

  stream_fits : EntityFits core 5 (built_in kind.Actor cap.Tag (codes "OutStream") [] 1)
  stream_fits = record {
    provides = each_none _;
    ascends = ascends_none;
    above = λ b. (λ g. absurd (none-some b g.1), λ l. absurd (no_lead 5 b _ refl l));
    few_fields = omega arith;
    placed_fields = inl refl;
    fields = each_none _;
    names = λ i j x g h.
        let a = map_get method_name (slice_range q.methods 0 1) i x g in
        let b = map_get method_name (slice_range q.methods 0 1) j x h in
        (stream_method i a.0 a.1).0 ∙ sym (stream_method j b.0 b.1).0;
    methods = λ i m h. ap (λ (x : Method). x.entity) (sym (stream_method i m h).1);
  }

  -- ---- the entities of the file

  abbrev entities : List t.Entity
  entities = file.entities

  abbrev own : ℕ → t.Entity → EntityDef
  own i e = core_entity file above (first_own + i) (1 + starts entities entities i) e

  -- A method of an entity is a member of it.
  pub record OwnMethod (i : ℕ) (e : t.Entity) (j : ℕ) (m : Method) : Type 0 where
    pub member : Member
    pub is_member : slice_get (members entities e) j ≡ Some member
    pub at : At file q (1 + (starts entities entities i + j)) (owned (first_own + i) e member)
    pub same : method_at file q (1 + (starts entities entities i + j)) (owned (first_own + i) e member) at ≡ m

  pub own_method : (i : ℕ) (e : t.Entity) (j : ℕ) (m : Method) → slice_get entities i ≡ Some e → slice_get (own_methods core (own i e)) j ≡ Some m → OwnMethod i e j m
  own_method i e j m h g =
      let first : ℕ = 1 + starts entities entities i in
      let r = get_range q.methods first (first + length (members entities e)) j m g in
      let low : first + j < first + length (members entities e) = r.0 in
      let within : j < length (members entities e) = omega (arith, low) in
      let x = get_within (members entities e) j within in
      let o : Owned = owned (first_own + i) e x.0 in
      let place : slice_get (all_members file) (starts entities entities i + j) ≡ Some o = own_member entities entities first_own i j e x.0 h x.1 in
      let a : At file q (1 + (starts entities entities i + j)) o = s.parts.at (starts entities entities i + j) o place in
      let number : 1 + (starts entities entities i + j) ≡ first + j = omega arith in
      record {
        member = x.0;
        is_member = x.1;
        at = a;
        same = same_Some (method_at file q (1 + (starts entities entities i + j)) o a) m (sym (at_get file q (1 + (starts entities entities i + j)) o a) ∙ ap (slice_get q.methods) number ∙ r.1);
      }

  pub text_there : (e : t.Entity) (m : Member) → Has entities e → Has (members entities e) m → Has core.names (member_text m)
  text_there e m he hm = by m (sort_of file above e m s.collects he hm)
    where
      by : (m : Member) → Sort file e m → Has core.names (member_text m)
      by (written x) o =
          let i : ℕ = o.is_method.0 in
          let text : slice_get (method_texts o.origin.methods) i ≡ Some x.name.text = get_map (λ (y : t.Method). y.name.text) o.origin.methods i o.source o.is_method.1 ∙ ap (λ (y : t.Method). Some y.name.text) o.same in
          member_there file o.origin x.name.text o.is_entity (has_behind (field_texts o.origin.fields) (method_texts o.origin.methods) x.name.text (i, text))
      by added o = (2, language_kept file 2 (codes "create") refl)

  abbrev texts : t.Entity → List Text
  texts e = field_texts e.fields ++ map member_text (members entities e)

  abbrev NameAt : t.Entity → ℕ → ℕ → Type 0
  NameAt e n k = (x : Text) × (slice_get (texts e) n ≡ Some x) × Has core.names x × (k ≡ text_from 0 core.names x)

  field_there : (e : t.Entity) (i : ℕ) (f : t.Field) → Has entities e → slice_get e.fields i ≡ Some f → Has core.names f.name.text
  field_there e i f he h = member_there file e f.name.text he (has_front (field_texts e.fields) (method_texts e.methods) f.name.text (i, get_map (λ (y : t.Field). y.name.text) e.fields i f h))

  name_at : (i : ℕ) (e : t.Entity) (n k : ℕ) → slice_get entities i ≡ Some e → slice_get (map field_name (own i e).fields ++ map method_name (own_methods core (own i e))) n ≡ Some k → NameAt e n k
  name_at i e n k h g = elim (append_get (map field_name (own i e).fields) (map method_name (own_methods core (own i e))) n k g) [
    | inl a ↦
        let r = map_get field_name (own i e).fields n k a in
        let f = map_get (core_field (known.texts_of_file file) (known.known_of file)) e.fields n r.0 r.1 in
        (f.0.name.text, get_front (field_texts e.fields) (map member_text (members entities e)) n f.0.name.text (get_map (λ (y : t.Field). y.name.text) e.fields n f.0 f.1), field_there e n f.0 (i, h) f.1, sym r.2 ∙ ap field_name (sym f.2))
    | inr b ↦
        let low = b.0 in
        let count : length (map field_name (own i e).fields) ≡ length e.fields = length-map (own i e).fields field_name ∙ length-map e.fields (core_field (known.texts_of_file file) (known.known_of file)) in
        let fields : length (field_texts e.fields) ≡ length e.fields = length-map e.fields (λ (y : t.Field). y.name.text) in
        let j : ℕ = n - length (map field_name (own i e).fields) in
        let place : n ≡ length (field_texts e.fields) + j = omega (arith, low, count, fields) in
        let r = map_get method_name (own_methods core (own i e)) j k b.1 in
        let m : OwnMethod i e j r.0 = own_method i e j r.0 h r.1 in
        (member_text m.member, ap (slice_get (texts e)) place ∙ get_append (field_texts e.fields) (map member_text (members entities e)) j ∙ get_map member_text (members entities e) j m.member m.is_member, text_there e m.member (i, h) (j, m.is_member), sym r.2 ∙ ap method_name (sym m.same))
  ]

  may_have : (b : Bool) (fs : List t.Field) → FieldsIf b fs → (fs ≡ []) ⊎ (b ≡ true)
  may_have true fs h = inr refl
  may_have false fs h = inl h

  provides_trait : (i : ℕ) (e : t.Entity) → slice_get entities i ≡ Some e
      → Each (λ j b. IsAbstract core b) (entity_numbers (entity_names file) e.provides)
  provides_trait i e h j b g =
      let named = numbers_only (entity_names file) e.provides b (has_is_in b (entity_numbers (entity_names file) e.provides) j g) in
      let n = named.0 in
      let f = is_trait_named entities n.text ((s.collects.sound e (i, h)).provides n named.1) in
      let at : slice_get (entity_names file) b ≡ Some n.text = position_get n.text (entity_names file) b named.2 in
      let there : slice_get (entity_names file) (first_own + f.1.0) ≡ Some n.text = get_append built_in_names (texts_of entities) f.1.0 ∙ get_map (λ (y : t.Entity). y.name.text) entities f.1.0 f.0 f.1.1 ∙ ap (λ y. Some y) f.3 in
      let number : b ≡ first_own + f.1.0 = s.collects.names b (first_own + f.1.0) n.text at there in
      (own f.1.0 f.0, ap (slice_get core.entities) number ∙ entity_get file above q f.1.0 f.0 f.1.1, f.2)

  own_fits : (i : ℕ) (e : t.Entity) → slice_get entities i ≡ Some e → EntityFits core (first_own + i) (own i e)
  own_fits i e h =
      let sound : Sound file e = s.collects.sound e (i, h) in
      let few = sound.few_fields in
      let low = get_below entities i e h in
      let size = s.closes.0 in
      let within : first_own + i < length above = omega (arith, low, size) in
      let a = get_within above (first_own + i) within in
      let listed : or_nil (slice_get above (first_own + i)) ≡ a.0 = ap or_nil a.1 in
      let is_above : IsAbove file (first_own + i) a.0 = s.closes.1 (first_own + i) a.0 a.1 in
      let count : length (own i e).fields ≡ length e.fields = length-map e.fields (core_field (known.texts_of_file file) (known.known_of file)) in
      let total = entities_length file above q in
      record {
        provides = provides_trait i e h;
        ascends = subst Ascends (sym listed) is_above.0;
        above = λ b. (λ g. leads_to ((is_above.1 b).0 (subst (λ xs. Has xs b) listed g)), λ l. subst (λ xs. Has xs b) (sym listed) ((is_above.1 b).1 (leads_of l)));
        few_fields = omega (arith, few, count);
        placed_fields = elim (may_have (may_have_fields e.kind) e.fields (s.placed e (i, h)).0) [ inl n ↦ inl (ap (map (core_field (known.texts_of_file file) (known.known_of file))) n) | inr y ↦ inr y ];
        fields = λ j x g.
            let f = map_get (core_field (known.texts_of_file file) (known.known_of file)) e.fields j x g in
            let below = type_below file f.0.ty (sound.fields f.0 (j, f.1)) in
            subst (λ (y : FieldInfo). (y.name < length core.names) × (y.entity < length core.entities)) f.2 (text_below core.names f.0.name.text (field_there e j f.0 (i, h) f.1), omega (arith, below, total));
        names = λ n m k g l.
            let x = name_at i e n k h g in
            let y = name_at i e m k h l in
            let same : x.0 ≡ y.0 = one_text core.names x.0 y.0 x.2 y.2 (sym x.3 ∙ y.3) in
            members_differ file above e s.collects s.placed (i, h) n m x.0 x.1 (y.1 ∙ ap (λ z. Some z) (sym same));
        methods = λ j m g. ap (λ (x : Method). x.entity) (sym (own_method i e j m h g).same);
      }

  pub entities_fit : Each (EntityFits core) core.entities
  entities_fit n x h = elim (entity_cases file above q n x h) [
    | inl a ↦ six (λ k y. slice_get built_ins k ≡ Some y → EntityFits core k y) (value_fits 0 (codes "None")) (value_fits 1 (codes "U64")) (value_fits 2 (codes "Bool")) (value_fits 3 (codes "String")) (λ g. env_fits) (λ g. stream_fits) n x a a
    | inr f ↦ subst (λ k. EntityFits core k x) (sym f.number) (subst (λ y. EntityFits core (first_own + f.place) y) f.same (own_fits f.place f.entity f.is_entity))
  ]
