-- What bodies know of a file's members by name is what they know when the core is made.
use Rattle.std.proofs.Common.{◌≡◌, ℕ, suc, ◌+◌, List, [], ◌∷◌, ◌++◌, length, map, Bool, true, false, refl, sym, ap, ◌∙◌, append-nil, if◌then◌else◌}
use Rattle.std.specs.{Prelude.{codes, filter}, Option.option_map_or, Str.bytes_eq}
use Rattle.pc_tree.specs.{declared.kinds.EntityKind.EntityKind, declared.file.ParamDef.ParamDef, Kinds.none_entity}
use Rattle.pc_tree.specs.declared.kinds.EntityKind.TheVariants as kind
use Rattle.pc_tree.specs.Tree as t
use Rattle.pc_members.specs.{Members.{Member, written, added, member_text, built_in_names}, MemberLists.{is_constructor, members, member_span}}
use Rattle.pc_body_spec.specs.{Bodies.{KnownEntity, Constructor, TypeMeaning, primitive, no_value, is_own, by_kind, type_from, constructor_named, is_among_names, Roses, one, added_none, body_of, body_around, added_body, initials_then}, Faults.{is_entity, body_faults, initial_faults}, Slots.{Local, initial_locals, method_locals}, Methods.local_names}
use Rattle.pc_file_spec.specs.Cores.{Owned, constructors_from, known_from, built_in_known, known_of, context_of}
use Rattle.pc_file_spec.proofs.Steps.{member_faults, member_names, member_rose}
use Rattle.pc_core_relation.specs.MemberFaults.{Owner, known_by_name, known_in, in_full, Bodied, node_count, nodes_in, names_of_slots}
use Rattle.pc_core_relation.proofs.{Alike.{Paired, neither, paired_if, TypesMatch, makers, same_type, Alike, body_same, initial_same}, Bare.{count_same, body_counts, initials_bare, around_bare}}

-- ---- constructors

abbrev by_name : List Member → List Constructor
by_name ms = map (λ m. record { name = member_text m; method = 0 }) (filter is_constructor ms)

constructors_match : (ms : List Member) (at : ℕ) (x : List ℕ) → Paired (constructor_named (by_name ms) x) (constructor_named (constructors_from at ms) x)
constructors_match [] at x = neither
constructors_match (m ∷ ms) at x = by (is_constructor m) (constructors_match ms at x) (constructors_match ms (suc at) x)
  where
    numbered : Bool → List Constructor
    numbered b = if b then record { name = member_text m; method = at } ∷ constructors_from (suc at) ms else constructors_from (suc at) ms

    named : Bool → List Constructor
    named b = map (λ m. record { name = member_text m; method = 0 }) (if b then m ∷ filter is_constructor ms else filter is_constructor ms)

    by : (b : Bool) → Paired (constructor_named (by_name ms) x) (constructor_named (constructors_from at ms) x) → Paired (constructor_named (by_name ms) x) (constructor_named (constructors_from (suc at) ms) x)
        → Paired (constructor_named (named b) x) (constructor_named (numbered b) x)
    by true p q = paired_if (bytes_eq (member_text m) x) 0 at (constructor_named (by_name ms) x) (constructor_named (constructors_from (suc at) ms) x) q
    by false p q = q

-- ---- types

if_match : (b : Bool) (m n p q : TypeMeaning) → TypesMatch m n → TypesMatch p q → TypesMatch (if b then m else p) (if b then n else q)
if_match true m n p q h g = h
if_match false m n p q h g = g

kind_match : (k : EntityKind) (e : ℕ) (cs ds : List Constructor) → ((x : List ℕ) → Paired (constructor_named cs x) (constructor_named ds x)) → TypesMatch (by_kind k e cs) (by_kind k e ds)
kind_match kind.Class e cs ds h = makers false cs ds h
kind_match kind.Actor e cs ds h = makers true cs ds h
kind_match kind.Primitive e cs ds h = same_type (primitive e)
kind_match kind.Trait e cs ds h = same_type no_value
kind_match kind.Interface e cs ds h = same_type no_value

module _ (all : List t.Entity) where
  abbrev pub own : t.Entity → Owner
  own e = record { entity = e; members = members all e }

  abbrev named : List t.Entity → List KnownEntity
  named es = map (λ (x : Owner). known_by_name x.entity.name.text x.entity.kind x.members) (map own es)

  own_match : (es : List t.Entity) (at k : ℕ) (x : List ℕ) → TypesMatch (type_from k (named es) x) (type_from k (known_from all at es) x)
  own_match [] at k x = same_type no_value
  own_match (e ∷ es) at k x =
      let cs : List Constructor = by_name (members all e) in
      let ds : List Constructor = constructors_from at (members all e) in
      if_match (bytes_eq e.name.text x) (if is_own k then by_kind e.kind k cs else no_value) (if is_own k then by_kind e.kind k ds else no_value)
      (type_from (suc k) (named es) x) (type_from (suc k) (known_from all (at + length (members all e)) es) x)
      (if_match (is_own k) (by_kind e.kind k cs) (by_kind e.kind k ds) no_value no_value (kind_match e.kind k cs ds (λ y. constructors_match (members all e) at y)) (same_type no_value))
      (own_match es (at + length (members all e)) (suc k) x)

  own_texts : (es : List t.Entity) (at : ℕ) → map (λ (k : KnownEntity). k.name) (named es) ≡ map (λ (k : KnownEntity). k.name) (known_from all at es)
  own_texts [] at = refl
  own_texts (e ∷ es) at = ap (λ xs. e.name.text ∷ xs) (own_texts es (at + length (members all e)))

entity_named : (ks : List KnownEntity) (x : List ℕ) → is_entity ks x ≡ is_among_names (map (λ (k : KnownEntity). k.name) ks) x
entity_named [] x = refl
entity_named (k ∷ ks) x = ap (λ b. if bytes_eq k.name x then true else b) (entity_named ks x)

abbrev bare_name : List ℕ → KnownEntity
bare_name x = known_by_name x kind.Primitive []

none_match : (ks ls : List KnownEntity) (x : List ℕ) → ((k : ℕ) → TypesMatch (type_from k ks x) (type_from k ls x)) → TypesMatch (type_from 0 (map bare_name built_in_names ++ ks) x) (type_from 0 (built_in_known ++ ls) x)
none_match ks ls x h =
    next (codes "None") (primitive none_entity) _ _
    (next (codes "U64") no_value _ _
    (next (codes "Bool") no_value _ _
    (next (codes "String") no_value _ _
    (next (codes "Env") no_value _ _
    (next (codes "OutStream") no_value _ _ (h 6))))))
  where
    next : (text : List ℕ) (m p q : TypeMeaning) → TypesMatch p q → TypesMatch (if bytes_eq text x then m else p) (if bytes_eq text x then m else q)
    next text m p q g = if_match (bytes_eq text x) m m p q (same_type m) g

-- ---- contexts

module _ (file : t.File) where
  abbrev pub owners : List Owner
  owners = map (own file.entities) file.entities

  pub alike : (o : Owned) → Alike (known_in owners (own file.entities o.owner)) (context_of file o)
  alike o = record {
    fields = refl;
    methods = refl;
    types = λ x. none_match (named file.entities file.entities) (known_from file.entities 1 file.entities) x (λ k. own_match file.entities file.entities 1 k x);
    entities = λ x.
        entity_named (map bare_name built_in_names ++ named file.entities file.entities) x
        ∙ ap (λ ns. is_among_names (built_in_names ++ ns) x) (own_texts file.entities file.entities 1)
        ∙ sym (entity_named (known_of file) x);
  }

  -- ---- members

  abbrev pub bodied : Owned → Bodied
  bodied o = record { method = in_full o.owner.name o.member; fields = o.owner.fields; context = known_in owners (own file.entities o.owner) }

  pub faults_known : (o : Owned) → body_faults (bodied o).context (bodied o).fields (bodied o).method ≡ member_faults (context_of file o) o.owner o.member
  faults_known o = by o.member
    where
      by : (m : Member) → body_faults (bodied o).context o.owner.fields (in_full o.owner.name m) ≡ member_faults (context_of file o) o.owner m
      by (written m) = body_same (bodied o).context (context_of file o) (alike o) o.owner.fields m
      by added = append-nil (initial_faults (bodied o).context o.owner.fields) ∙ initial_same (bodied o).context (context_of file o) (alike o) o.owner.fields

  pub nodes_known : (o : Owned) → nodes_in (bodied o) ≡ option_map_or node_count (member_rose (context_of file o) o.owner o.member) 0
  nodes_known o = by o.member
    where
      by : (m : Member) → option_map_or node_count (body_of (bodied o).context o.owner.fields (in_full o.owner.name m)) 0 ≡ option_map_or node_count (member_rose (context_of file o) o.owner m) 0
      by (written m) = body_counts (bodied o).context (context_of file o) (alike o) o.owner.fields m
      by added =
          let c = (bodied o).context in
          let d = context_of file o in
          let s = o.owner.name.span in
          let last : Roses = one (added_none s 0) in
          count_same (body_around s s (initials_then c o.owner.fields last)) (added_body d o.owner.fields s) (around_bare c d (alike o) s s (initials_then c o.owner.fields last) (initials_then d o.owner.fields last) (initials_bare c d (alike o) o.owner.fields last last refl))

  pub slots_known : (o : Owned) → names_of_slots (bodied o) ≡ member_names o.owner o.member
  slots_known o = by o.member
    where
      by : (m : Member) → map (λ (p : ParamDef). p.name) (in_full o.owner.name m).params ++ map (λ (l : Local). l.name) (method_locals o.owner.fields (in_full o.owner.name m)) ≡ member_names o.owner m
      by (written m) = refl
      by added = ap local_names (append-nil (initial_locals o.owner.fields))

  pub place_known : (o : Owned) → (bodied o).method.name.span ≡ member_span o.owner.name.span o.member
  place_known o = by o.member
    where
      by : (m : Member) → (in_full o.owner.name m).name.span ≡ member_span o.owner.name.span m
      by (written m) = refl
      by added = refl
