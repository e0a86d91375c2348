-- What a body knows of the core computed from a file is what it knows of the file.
use Rattle.std.proofs.{Common.{◌≡◌, ℕ, suc, ◌+◌, ◌≤◌, List, [], ◌∷◌, ◌++◌, length, map, Some, Bool, true, refl, sym, ap, ◌∙◌, subst, arith, if◌then◌else◌}, lemmas.Option.same_Some}
use Rattle.std.specs.Prelude.{slice_get, slice_range, codes}
use Rattle.pc_caps.specs.declared.capability.Cap.{Cap}
use Rattle.pc_caps.specs.declared.capability.Cap.TheVariants as cap
use Rattle.pc_base.specs.Lists.{Has, Text}
use Rattle.pc_base.proofs.{Gets.{get_map, get_range}, Ranges.run_within, Elements.has_behind}
use Rattle.pc_tree.specs.{declared.kinds.EntityKind.EntityKind, declared.kinds.MethodWord.MethodWord, Kinds.first_own}
use Rattle.pc_tree.specs.declared.kinds.EntityKind.TheVariants as kind
use Rattle.pc_tree.specs.declared.kinds.MethodWord.TheVariants as word
use Rattle.pc_tree.specs.Tree as t
use Rattle.pc_core.specs.{declared.declarations.Method.Method, CoreData.CoreData, Entities.{constructor_kind, word_kind}}
use Rattle.pc_members.specs.{Members.{is_new, field_texts, method_texts, built_in_names, entity_names, Member, written, added, member_text}, Parts.or_nil, MemberLists.{is_constructor, members}}
use Rattle.pc_body_spec.specs.Bodies.{Context, KnownEntity, Constructor}
use Rattle.pc_file_spec.specs.Cores.{Owned, owned, constructors_from, known_from, known_value, known_of, kind_of, context_of, placed_of, Parts, built_in_parts, core_with, core_entity, entities_from}
use Rattle.pc_file_spec.specs.Cores as known
use Rattle.pc_file_spec.proofs.{Tables.{member_there, language_kept, text_found}, Collects.Collects, Origins.{Sort, sort_of}, Owners.{starts, entity_at, own_member, methods_run, members_follow}, Parts.{At, AllAt}, Formation.names_given, Settings.{all_members, method_at, at_get}}
use Rattle.pc_core_relation.specs.{Files.{Match, makes, constructors_among, seen_entity}, Parts.{text_at, seen_entities}}
use Rattle.pc_core_relation.proofs.{Lists.{match_rest, range_count}, Mirror.owned_context, Types.entity_name}

-- ---- constructors

makes_object : (k : EntityKind) → makes (constructor_kind k) ≡ true
makes_object kind.Class = refl
makes_object kind.Actor = refl
makes_object kind.Primitive = refl
makes_object kind.Trait = refl
makes_object kind.Interface = refl

makes_word : (k : EntityKind) (w : MethodWord) → makes (word_kind k w) ≡ is_new w
makes_word k word.Fun = refl
makes_word k word.Be = refl
makes_word k word.New = makes_object k

makes_member : (k : EntityKind) (m : Member) → makes (kind_of k m) ≡ is_constructor m
makes_member k (written m) = makes_word k m.word
makes_member k added = makes_object k

-- A method has the kind and the name of a member.
abbrev pub Tells : List Text → EntityKind → Member → Method → Type 0
Tells names k m y = (y.kind ≡ kind_of k m) × (slice_get names y.name ≡ Some (member_text m))

abbrev constructor : Text → ℕ → Constructor
constructor x n = record { name = x; method = n }

abbrev with_it : Bool → Constructor → List Constructor → List Constructor
with_it b x xs = if b then x ∷ xs else xs

pub among_same : (names : List Text) (k : EntityKind) (ms : List Member) (at : ℕ) (ys : List Method) → Match (Tells names k) ms ys → constructors_among names at ys ≡ constructors_from at ms
among_same names k [] at [] h = refl
among_same names k [] at (y ∷ ys) h = let e = h.0 in absurd (omega (arith, e))
among_same names k (m ∷ ms) at [] h = let e = h.0 in absurd (omega (arith, e))
among_same names k (m ∷ ms) at (y ∷ ys) h =
    let head : Tells names k m y = h.1 0 m y refl refl in
    let flag : makes y.kind ≡ is_constructor m = ap makes head.0 ∙ makes_member k m in
    let text : text_at names y.name ≡ member_text m = ap or_nil head.1 in
    let rest : constructors_among names (suc at) ys ≡ constructors_from (suc at) ms = among_same names k ms (suc at) ys (match_rest (Tells names k) m y ms ys h) in
    ap (λ b. with_it b (constructor (text_at names y.name) at) (constructors_among names (suc at) ys)) flag
    ∙ ap (λ x. with_it (is_constructor m) (constructor x at) (constructors_among names (suc at) ys)) text
    ∙ ap (λ cs. with_it (is_constructor m) (constructor (member_text m) at) cs) rest

abbrev pub seen : Text → EntityKind → Cap → List Constructor → KnownEntity
seen name k c cs = record { name = name; kind = k; cap = c; constructors = cs }

-- The built-in entities, with these constructors of the stream, and then others.
abbrev pub six : List Constructor → List KnownEntity → List KnownEntity
six cs ks =
    known_value (codes "None") ∷ known_value (codes "U64") ∷ known_value (codes "Bool") ∷ known_value (codes "String")
    ∷ seen (codes "Env") kind.Class cap.Val []
    ∷ seen (codes "OutStream") kind.Actor cap.Tag cs ∷ ks

-- ---- texts

-- The name of a member is one of the file's texts.
pub text_there : (file : t.File) (above : List (List ℕ)) (e : t.Entity) (m : Member) → Collects file above → Has file.entities e → Has (members file.entities e) m → Has (known.texts_of_file file) (member_text m)
text_there file above e m c he hm = by m (sort_of file above e m c he hm)
  where
    by : (m : Member) → Sort file e m → Has (known.texts_of_file file) (member_text m)
    by (written x) o =
        let i : ℕ = o.is_method.0 in
        let text : slice_get (method_texts o.origin.methods) i ≡ Some x.name.text = get_map (λ (y : t.Method). y.name.text) o.origin.methods i o.source o.is_method.1 ∙ ap (λ (y : t.Method). Some y.name.text) o.same in
        member_there file o.origin x.name.text o.is_entity (has_behind (field_texts o.origin.fields) (method_texts o.origin.methods) x.name.text (i, text))
    by added o = (2, language_kept file 2 (codes "create") refl)

-- ---- the entities of the core

module _ (file : t.File) (above : List (List ℕ)) (q : Parts) (c : Collects file above) (parts : AllAt file built_in_parts (all_members file) q) where
  abbrev core : CoreData
  core = core_with file above q

  pub all_names : map entity_name core.entities ≡ entity_names file
  all_names = ap (λ xs. built_in_names ++ xs) (names_given file above file.entities first_own 1)

  abbrev first : ℕ → ℕ
  first i = 1 + starts file.entities file.entities i

  -- A member of an entity is a method of the core.
  pub own_at : (i j : ℕ) (e : t.Entity) (m : Member) → slice_get file.entities i ≡ Some e → slice_get (members file.entities e) j ≡ Some m → At file q (first i + j) (owned (first_own + i) e m)
  own_at i j e m h g =
      let k : ℕ = starts file.entities file.entities i + j in
      let number : 1 + k ≡ first i + j = omega arith in
      subst (λ n. At file q n (owned (first_own + i) e m)) number (parts.at k (owned (first_own + i) e m) (own_member file.entities file.entities first_own i j e m h g))

  own_run : (i : ℕ) (e : t.Entity) → slice_get file.entities i ≡ Some e → first i + length (members file.entities e) ≤ length q.methods
  own_run i e h =
      let here = get_map methods_run (entities_from file above first_own 1 file.entities) i (core_entity file above (first_own + i) (first i) e) (entity_at file above file.entities first_own 1 i e h) in
      let within = (run_within 1 (map methods_run (entities_from file above first_own 1 file.entities)) (1 + length (all_members file)) i (first i, length (members file.entities e)) (members_follow file above file.entities first_own 1) here).1 in
      let count = parts.count in
      omega (arith, within, count)

  own_match : (i : ℕ) (e : t.Entity) → slice_get file.entities i ≡ Some e → Match (Tells core.names e.kind) (members file.entities e) (slice_range q.methods (first i) (first i + length (members file.entities e)))
  own_match i e h = (
    sym (range_count q.methods (first i) (length (members file.entities e)) (own_run i e h)),
    λ j m y g l.
        let o : Owned = owned (first_own + i) e m in
        let a : At file q (first i + j) o = own_at i j e m h g in
        let there : slice_get q.methods (first i + j) ≡ Some y = (get_range q.methods (first i) (first i + length (members file.entities e)) j y l).1 in
        let same : method_at file q (first i + j) o a ≡ y = same_Some (method_at file q (first i + j) o a) y (sym (at_get file q (first i + j) o a) ∙ there) in
        let told : Tells core.names e.kind m (method_at file q (first i + j) o a) = (refl, text_found (known.texts_of_file file) (member_text m) (text_there file above e m c (i, h) (j, g))) in
        subst (Tells core.names e.kind m) same told,
  )

  abbrev own_constructors : ℕ → t.Entity → List Constructor
  own_constructors at e = constructors_among core.names at (slice_range q.methods at (at + length (members file.entities e)))

  seen_from : (es : List t.Entity) (n at : ℕ) → ((i : ℕ) (e : t.Entity) → slice_get es i ≡ Some e → own_constructors (at + starts file.entities es i) e ≡ constructors_from (at + starts file.entities es i) (members file.entities e))
      → map (seen_entity core) (entities_from file above n at es) ≡ known_from file.entities at es
  seen_from [] n at f = refl
  seen_from (e ∷ es) n at f =
      let zeros : at + 0 ≡ at = omega arith in
      let own : own_constructors at e ≡ constructors_from at (members file.entities e) = subst (λ k. own_constructors k e ≡ constructors_from k (members file.entities e)) zeros (f 0 e refl) in
      let count : ℕ = length (members file.entities e) in
      let later : (i : ℕ) → at + (count + starts file.entities es i) ≡ at + count + starts file.entities es i = λ i. omega arith in
      let rest : map (seen_entity core) (entities_from file above (suc n) (at + count) es) ≡ known_from file.entities (at + count) es =
      seen_from es (suc n) (at + count) (λ i x h. subst (λ k. own_constructors k x ≡ constructors_from k (members file.entities x)) (later i) (f (suc i) x h)) in
      ap (λ cs. seen e.name.text e.kind (known.default_cap e.kind e.cap) cs ∷ map (seen_entity core) (entities_from file above (suc n) (at + count) es)) own ∙ ap (λ ks. seen e.name.text e.kind (known.default_cap e.kind e.cap) (constructors_from at (members file.entities e)) ∷ ks) rest

  stream_none : constructors_among core.names 0 (slice_range q.methods 0 1) ≡ []
  stream_none = ap (λ ms. constructors_among core.names 0 (slice_range ms 0 1)) parts.extends.is_methods

  pub seen_same : seen_entities core ≡ known_of file
  seen_same =
      let own : map (seen_entity core) (entities_from file above first_own 1 file.entities) ≡ known_from file.entities 1 file.entities =
      seen_from file.entities first_own 1 (λ i e h. among_same core.names e.kind (members file.entities e) (first i) (slice_range q.methods (first i) (first i + length (members file.entities e))) (own_match i e h)) in
      ap (λ cs. six cs (map (seen_entity core) (entities_from file above first_own 1 file.entities))) stream_none ∙ ap (λ ks. six [] ks) own

  abbrev seeing : Owned → List KnownEntity → Context
  seeing o ks = record { fields = field_texts o.owner.fields; methods = map member_text (members file.entities o.owner); entities = ks; texts = known.texts_of_file file; slots = placed_of o.owner o.member }

  -- So names in bodies mean the same.
  pub context_same : (o : Owned) → owned_context core (members file.entities o.owner) o ≡ context_of file o
  context_same o = ap (λ ks. seeing o ks) seen_same
