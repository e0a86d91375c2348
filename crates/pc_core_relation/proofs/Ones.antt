-- The core of a file is the one computed from it.
use Rattle.std.proofs.{Common.{◌≡◌, ℕ, suc, ◌+◌, ◌-◌, ◌<◌, ◌≤◌, ◌^◌, List, [], ◌∷◌, ◌++◌, length, map, drop, Some, refl, sym, ap, ap₂, ◌∙◌, subst, arith, length-drop}, lemmas.Option.same_Some, lemmas.List.length-map}
use Rattle.std.specs.Prelude.{slice_get, slice_range, codes, Ok}
use Rattle.pc_caps.specs.declared.capability.Cap.{Cap}
use Rattle.pc_caps.specs.declared.capability.Cap.TheVariants as cap
use Rattle.pc_base.specs.{declared.span.Span.Span, Lists.{Differ, Each, Follow, Text}}
use Rattle.pc_base.proofs.{Cuts.drop_item, Elements.differ_none, Gets.{get_map, map_get, get_append, get_drop, get_range}, Ranges.run_within}
use Rattle.pc_tree.specs.{declared.kinds.EntityKind.EntityKind, declared.written_names.Name.Name, Kinds.first_own}
use Rattle.pc_tree.specs.declared.kinds.EntityKind.TheVariants as kind
use Rattle.pc_tree.specs.Tree as t
use Rattle.pc_core.specs.{declared.declarations.EntityDef.EntityDef, declared.declarations.FieldInfo.FieldInfo, declared.declarations.Method.Method, declared.nodes.Node.Node, declared.nodes.Slot.Slot, CoreData.{CoreData, own_methods}, Entities.{print_method, built_in, built_in_value, out_field}}
use Rattle.pc_members.specs.Members as words
use Rattle.pc_members.specs.{Members.{built_in_names, entity_names, Member}, Parts.or_nil, Founded.IsFounded, Edges.entity_numbers, MemberLists.members}
use Rattle.pc_names.specs.Faults.{count_faults, NamesData, Collected}
use Rattle.pc_file_spec.specs.Cores.{Owned, owned, members_from, texts_of_file, known_of, known_from, default_cap, constructors_from, if_ok, parts_of, core_with, core_of, built_ins, core_field, core_entity, entities_from, Stands}
use Rattle.pc_file_spec.proofs.{Ones.one_core, Tables.{language_kept, texts_differ}, Owners.{starts, entity_at, methods_run, members_follow, Owner, owner_of}, Collects.{Collects, collects}, Parts.{slots_run, nodes_run}}
use Rattle.pc_core_relation.specs.{Files.{Match, EntityHasName, constructors_among, seen_entity, MethodStands, FieldStands, EntityStands, IsCoreOf}, Parts.{seen_entities, above_of}, Laws.{StandingCoresAreMade, StandingCoresAreOne}}
use Rattle.pc_core_relation.proofs.{Lists.{match_one, range_count}, Texts.firsts_are_texts, Types.{entity_name, numbers_one}, Contexts.{Tells, among_same, seen, six}, Equals.field_one, Walks.walk, Inherited.members_one, Mirror.{ByTables, cap_meant, meant}, NoFaults.{names_founded, no_counts, no_faults}}

-- ---- lists

drop_none : {T : Type 0} → (xs : List T) → drop 0 xs ≡ xs
drop_none [] = refl
drop_none (x ∷ xs) = refl

-- Runs end at only one number.
follow_ends : (at : ℕ) (runs : List (ℕ × ℕ)) (one other : ℕ) → Follow at runs one → Follow at runs other → one ≡ other
follow_ends at [] one other p q = sym p ∙ q
follow_ends at (run ∷ runs) one other p q = follow_ends (at + run.1) runs one other p.1 q.1

abbrev entity : EntityKind → Cap → List ℕ → Span → List ℕ → List ℕ → List FieldInfo → ℕ → ℕ → EntityDef
entity k c name s provides above fields first count = record { kind = k; cap = c; name = name; span = s; provides = provides; above = above; fields = fields; first_method = first; methods = count }

abbrev core_from : List EntityDef → List Text → List Method → List Slot → List Node → CoreData
core_from es names ms ss ns = record { entities = es; methods = ms; slots = ss; nodes = ns; names = names }

-- ---- the names of entities

own_names : (es : List t.Entity) (xs : List EntityDef) → length es ≡ length xs → ((i : ℕ) (e : t.Entity) (x : EntityDef) → slice_get es i ≡ Some e → slice_get xs i ≡ Some x → x.name ≡ e.name.text) → map entity_name xs ≡ words.texts_of es
own_names [] [] l h = refl
own_names [] (x ∷ xs) l h = absurd (omega (arith, l))
own_names (e ∷ es) [] l h = absurd (omega (arith, l))
own_names (e ∷ es) (x ∷ xs) l h = ap₂ (λ y ys. y ∷ ys) (h 0 e x refl refl) (own_names es xs (omega (arith, l)) (λ i a b g k. h (suc i) a b g k))

module _ (file : t.File) (core : CoreData) where
  -- ---- what is known of the entities

  -- What bodies know of an entity is the same in both.
  record IsSeen (e : t.Entity) (x : EntityDef) : Type 0 where
    name : x.name ≡ e.name.text
    kind : x.kind ≡ e.kind
    cap : x.cap ≡ default_cap e.kind e.cap
    count : x.methods ≡ length (members file.entities e)
    constructors : constructors_among core.names x.first_method (own_methods core x) ≡ constructors_from x.first_method (members file.entities e)

  seen_own : (es : List t.Entity) (xs : List EntityDef) (at last : ℕ) → length es ≡ length xs → Follow at (map methods_run xs) last → ((i : ℕ) (e : t.Entity) (x : EntityDef) → slice_get es i ≡ Some e → slice_get xs i ≡ Some x → IsSeen e x)
      → map (seen_entity core) xs ≡ known_from file.entities at es
  seen_own [] [] at last l f h = refl
  seen_own [] (x ∷ xs) at last l f h = absurd (omega (arith, l))
  seen_own (e ∷ es) [] at last l f h = absurd (omega (arith, l))
  seen_own (e ∷ es) (x ∷ xs) at last l f h =
      let s : IsSeen e x = h 0 e x refl refl in
      let next : Follow (at + length (members file.entities e)) (map methods_run xs) last = subst (λ k. Follow (at + k) (map methods_run xs) last) s.count f.1 in
      let rest : map (seen_entity core) xs ≡ known_from file.entities (at + length (members file.entities e)) es = seen_own es xs (at + length (members file.entities e)) last (omega (arith, l)) next (λ i a b g k. h (suc i) a b g k) in
      let cs : constructors_among core.names x.first_method (own_methods core x) ≡ constructors_from at (members file.entities e) = s.constructors ∙ ap (λ k. constructors_from k (members file.entities e)) f.0 in
      ap₂ (λ n k. seen n k x.cap (constructors_among core.names x.first_method (own_methods core x)) ∷ map (seen_entity core) xs) s.name s.kind
      ∙ ap₂ (λ c ks. seen e.name.text e.kind c ks ∷ map (seen_entity core) xs) s.cap cs
      ∙ ap (λ ks. seen e.name.text e.kind (default_cap e.kind e.cap) (constructors_from at (members file.entities e)) ∷ ks) rest

  -- ---- the entities

  entities_own : (es : List t.Entity) (xs : List EntityDef) (n at last : ℕ) → length es ≡ length xs → Follow at (map methods_run xs) last
      → ((i : ℕ) (e : t.Entity) (x : EntityDef) → slice_get es i ≡ Some e → slice_get xs i ≡ Some x → (x ≡ core_entity file (above_of core) (n + i) x.first_method e)) → xs ≡ entities_from file (above_of core) n at es
  entities_own [] [] n at last l f h = refl
  entities_own [] (x ∷ xs) n at last l f h = absurd (omega (arith, l))
  entities_own (e ∷ es) [] n at last l f h = absurd (omega (arith, l))
  entities_own (e ∷ es) (x ∷ xs) n at last l f h =
      let zeros : n + 0 ≡ n = omega arith in
      let same : x ≡ core_entity file (above_of core) n at e = h 0 e x refl refl ∙ ap₂ (λ k j. core_entity file (above_of core) k j e) zeros f.0 in
      let count : x.methods ≡ length (members file.entities e) = ap (λ (y : EntityDef). y.methods) same in
      let next : Follow (at + length (members file.entities e)) (map methods_run xs) last = subst (λ k. Follow (at + k) (map methods_run xs) last) count f.1 in
      let later : (i : ℕ) → n + suc i ≡ suc n + i = λ i. omega arith in
      ap₂ (λ y ys. y ∷ ys) same (entities_own es xs (suc n) (at + length (members file.entities e)) last (omega (arith, l)) next (λ i a b g k. h (suc i) a b g k ∙ ap (λ j. core_entity file (above_of core) j b.first_method a) (later i)))

  -- ---- the core of a file

  module _ (s : IsCoreOf file core) where
    texts_same : core.names ≡ texts_of_file file
    texts_same = firsts_are_texts file core.names s.texts

    names_differ : Differ core.names
    names_differ = subst Differ (sym texts_same) (texts_differ file)

    numbered : (i n : ℕ) (x : Text) → slice_get (texts_of_file file) i ≡ Some x → slice_get core.names n ≡ Some x → n ≡ i
    numbered i n x h g = names_differ n i x g (ap (λ xs. slice_get xs i) texts_same ∙ h)

    out_is : s.built_in.out ≡ 0
    out_is = numbered 0 s.built_in.out (codes "out") (language_kept file 0 (codes "out") refl) s.built_in.out_name

    print_is : s.built_in.print ≡ 1
    print_is = numbered 1 s.built_in.print (codes "print") (language_kept file 1 (codes "print") refl) s.built_in.print_name

    founded : IsFounded file
    founded = names_founded file s.names_are_right

    abbrev own : List EntityDef
    own = drop first_own core.entities

    split : core.entities ≡ built_ins ++ own
    split =
        let b = s.built_in in
        let xs = core.entities in
        let env : slice_get xs 4 ≡ Some (built_in kind.Class cap.Val (codes "Env") (out_field 0 ∷ []) 0) = b.env ∙ ap (λ n. Some (built_in kind.Class cap.Val (codes "Env") (out_field n ∷ []) 0)) out_is in
        sym (drop_none xs) ∙ drop_item xs 0 _ b.none ∙ ap (λ ys. built_in_value (codes "None") ∷ ys) (
        drop_item xs 1 _ b.numbers ∙ ap (λ ys. built_in_value (codes "U64") ∷ ys) (
        drop_item xs 2 _ b.truths ∙ ap (λ ys. built_in_value (codes "Bool") ∷ ys) (
        drop_item xs 3 _ b.texts ∙ ap (λ ys. built_in_value (codes "String") ∷ ys) (
        drop_item xs 4 _ env ∙ ap (λ ys. built_in kind.Class cap.Val (codes "Env") (out_field 0 ∷ []) 0 ∷ ys) (drop_item xs 5 _ b.stream)))))

    own_count : length file.entities ≡ length own
    own_count =
        let all : length (above_of core) ≡ first_own + length file.entities = s.above.0 in
        let same : length (above_of core) ≡ length core.entities = length-map core.entities (λ (x : EntityDef). x.above) in
        let rest : length own ≡ length core.entities - first_own = length-drop first_own core.entities in
        omega (arith, all, same, rest)

    own_get : (i : ℕ) (x : EntityDef) → slice_get own i ≡ Some x → slice_get core.entities (first_own + i) ≡ Some x
    own_get i x h = sym (get_drop core.entities first_own i) ∙ h

    own_stands : (i : ℕ) (e : t.Entity) (x : EntityDef) → slice_get file.entities i ≡ Some e → slice_get own i ≡ Some x → EntityStands file core (first_own + i) e x
    own_stands i e x h g =
        let r = s.entities i e h in
        subst (λ y. EntityStands file core (first_own + i) e y) (same_Some r.0 x (sym r.1 ∙ own_get i x g)) r.2

    -- The members of an entity are those that are computed.
    members_same : (i n : ℕ) (e : t.Entity) (x : EntityDef) → slice_get file.entities i ≡ Some e → (st : EntityStands file core n e x) → st.members ≡ members file.entities e
    members_same i n e x h st = members_one file (above_of core) founded s.above e st.members (i, h) st.are_members

    count_same : (i n : ℕ) (e : t.Entity) (x : EntityDef) → slice_get file.entities i ≡ Some e → EntityStands file core n e x → x.methods ≡ length (members file.entities e)
    count_same i n e x h st = st.count ∙ ap length (members_same i n e x h st)

    abbrev MembersStand : ℕ → t.Entity → EntityDef → List Member → Type 0
    MembersStand n e x ms = Each (λ j member. (y : Method) × (slice_get core.methods (x.first_method + j) ≡ Some y) × MethodStands core ms n e member (x.first_method + j) y) ms

    methods_stand : (i n : ℕ) (e : t.Entity) (x : EntityDef) → slice_get file.entities i ≡ Some e → EntityStands file core n e x → (j : ℕ) (member : Member) → slice_get (members file.entities e) j ≡ Some member
        → (y : Method) × (slice_get core.methods (x.first_method + j) ≡ Some y) × ByTables core (members file.entities e) (x.first_method + j) (owned n e member) y
    methods_stand i n e x h st j member g =
        let all : MembersStand n e x (members file.entities e) = subst (MembersStand n e x) (members_same i n e x h st) st.methods in
        let r = all j member g in
        (r.0, r.1, meant core (members file.entities e) (x.first_method + j) n e member r.0 r.2)

    own_follow : Follow 1 (map methods_run own) (length core.methods)
    own_follow =
        let all : Follow 0 (map methods_run (built_ins ++ own)) (length core.methods) = subst (λ xs. Follow 0 (map methods_run xs) (length core.methods)) split s.methods_follow in
        all.1.1.1.1.1.1

    counts_none : count_faults file.entities 0 file.entities ≡ []
    counts_none =
        let size : length own ≡ length (map methods_run own) = sym (length-map own methods_run) in
        no_counts file.entities file.entities (map methods_run own) 0 1 (length core.methods) (own_count ∙ size) own_follow refl s.few_methods
        (λ i e run h g.
        let r = map_get methods_run own i run g in
        ap (λ (q : ℕ × ℕ). q.1) (sym r.2) ∙ count_same i (first_own + i) e r.0 h (own_stands i e r.0 h r.1))

    abbrev names : NamesData
    names = record { entities = entity_names file; texts = []; above = above_of core }

    collected : Collected file names
    collected = record { faults = no_faults file (above_of core) s.above s.names_are_right counts_none; entities = refl; above = s.above; texts = differ_none }

    sound : Collects file (above_of core)
    sound = collects file names collected

    all_named : map entity_name core.entities ≡ entity_names file
    all_named = ap (map entity_name) split ∙ ap (λ xs. built_in_names ++ xs) (own_names file.entities own own_count (λ i e x h g. (own_stands i e x h g).name))

    entities_differ : Differ (map entity_name core.entities)
    entities_differ = subst Differ (sym all_named) sound.names

    methods_split : core.methods ≡ print_method 1 ∷ drop 1 core.methods
    methods_split = sym (drop_none core.methods) ∙ drop_item core.methods 0 _ (s.built_in.method ∙ ap (λ n. Some (print_method n)) print_is)

    -- ---- what is known

    own_seen : (i : ℕ) (e : t.Entity) (x : EntityDef) → slice_get file.entities i ≡ Some e → slice_get own i ≡ Some x → IsSeen e x
    own_seen i e x h g =
        let st : EntityStands file core (first_own + i) e x = own_stands i e x h g in
        let count : x.methods ≡ length (members file.entities e) = count_same i (first_own + i) e x h st in
        let within : x.first_method + x.methods ≤ length core.methods = (run_within 1 (map methods_run own) (length core.methods) i (methods_run x) own_follow (get_map methods_run own i x g)).1 in
        let tells : Match (Tells core.names e.kind) (members file.entities e) (own_methods core x) = (
          sym count ∙ sym (range_count core.methods x.first_method x.methods within),
          λ j m y a b.
              let r = methods_stand i (first_own + i) e x h st j m a in
              let same : r.0 ≡ y = same_Some r.0 y (sym r.1 ∙ (get_range core.methods x.first_method (x.first_method + x.methods) j y b).1) in
              subst (Tells core.names e.kind m) same (r.2.kind, r.2.name),
        ) in
        record { name = st.name; kind = st.kind; cap = cap_meant e.kind e.cap x.cap st.cap; count = count; constructors = among_same core.names e.kind (members file.entities e) x.first_method (own_methods core x) tells }

    stream_none : constructors_among core.names 0 (slice_range core.methods 0 1) ≡ []
    stream_none = ap (λ ms. constructors_among core.names 0 (slice_range ms 0 1)) methods_split

    seen_same : seen_entities core ≡ known_of file
    seen_same =
        ap (map (seen_entity core)) split
        ∙ ap (λ cs. six cs (map (seen_entity core) own)) stream_none
        ∙ ap (λ ks. six [] ks) (seen_own file.entities own 1 (length core.methods) own_count own_follow own_seen)

    -- ---- the entities

    named_get : (n : Name) (b : ℕ) → EntityHasName core n b → slice_get (entity_names file) b ≡ Some n.text
    named_get n b h = ap (λ xs. slice_get xs b) (sym all_named) ∙ get_map entity_name core.entities b h.0 h.1 ∙ ap Some h.2

    entity_one : (i : ℕ) (e : t.Entity) (x : EntityDef) → slice_get file.entities i ≡ Some e → slice_get own i ≡ Some x → x ≡ core_entity file (above_of core) (first_own + i) x.first_method e
    entity_one i e x h g =
        let st : EntityStands file core (first_own + i) e x = own_stands i e x h g in
        let provides : entity_numbers (entity_names file) e.provides ≡ x.provides = numbers_one (entity_names file) e.provides x.provides sound.names (st.provides.0, λ k n b y z. named_get n b (st.provides.1 k n b y z)) in
        let above : slice_get (above_of core) (first_own + i) ≡ Some x.above = get_map (λ (y : EntityDef). y.above) core.entities (first_own + i) x (own_get i x g) in
        let fields : map (core_field core.names (known_of file)) e.fields ≡ x.fields = match_one (FieldStands core) (core_field core.names (known_of file)) (field_one core (known_of file) seen_same entities_differ names_differ) e.fields x.fields st.fields in
        ap₂ (λ k c. entity k c x.name x.span x.provides x.above x.fields x.first_method x.methods) st.kind (cap_meant e.kind e.cap x.cap st.cap)
        ∙ ap₂ (λ n z. entity e.kind (default_cap e.kind e.cap) n z x.provides x.above x.fields x.first_method x.methods) st.name st.span
        ∙ ap₂ (λ p a. entity e.kind (default_cap e.kind e.cap) e.name.text e.name.span p a x.fields x.first_method x.methods) (sym provides) (sym (ap or_nil above))
        ∙ ap₂ (λ fs c. entity e.kind (default_cap e.kind e.cap) e.name.text e.name.span (entity_numbers (entity_names file) e.provides) (or_nil (slice_get (above_of core) (first_own + i))) fs x.first_method c) (sym fields ∙ ap (λ xs. map (core_field xs (known_of file)) e.fields) texts_same) (count_same i (first_own + i) e x h st)

    entities_same : core.entities ≡ built_ins ++ entities_from file (above_of core) first_own 1 file.entities
    entities_same = split ∙ ap (λ xs. built_ins ++ xs) (entities_own file.entities own first_own 1 (length core.methods) own_count own_follow entity_one)

    -- ---- the methods

    abbrev all : List Owned
    all = members_from file.entities first_own file.entities

    methods_count : length core.methods ≡ 1 + length all
    methods_count =
        let same : own ≡ entities_from file (above_of core) first_own 1 file.entities = entities_own file.entities own first_own 1 (length core.methods) own_count own_follow entity_one in
        follow_ends 1 (map methods_run own) (length core.methods) (1 + length all) own_follow (subst (λ xs. Follow 1 (map methods_run xs) (1 + length all)) (sym same) (members_follow file (above_of core) file.entities first_own 1))

    member_stands : (i : ℕ) (o : Owned) (x : Method) → slice_get all i ≡ Some o → slice_get (drop 1 core.methods) i ≡ Some x → ByTables core (members file.entities o.owner) (1 + i) o x
    member_stands i o x h g =
        let w : Owner file.entities file.entities first_own i o = owner_of file.entities file.entities first_own i o h in
        let r = s.entities w.entity o.owner w.is_owner in
        let there : slice_get core.entities (first_own + w.entity) ≡ Some (core_entity file (above_of core) (first_own + w.entity) (1 + starts file.entities file.entities w.entity) o.owner) =
        ap (λ xs. slice_get xs (first_own + w.entity)) entities_same ∙ get_append built_ins (entities_from file (above_of core) first_own 1 file.entities) w.entity ∙ entity_at file (above_of core) file.entities first_own 1 w.entity o.owner w.is_owner in
        let first : r.0.first_method ≡ 1 + starts file.entities file.entities w.entity = ap (λ (y : EntityDef). y.first_method) (same_Some r.0 _ (sym r.1 ∙ there)) in
        let k = methods_stand w.entity (first_own + w.entity) o.owner r.0 w.is_owner r.2 w.place o.member w.is_member in
        let place = w.is_place in
        let number : r.0.first_method + w.place ≡ 1 + i = omega (arith, first, place) in
        let here : slice_get core.methods (1 + i) ≡ Some x = sym (get_drop core.methods 1 i) ∙ g in
        let same : k.0 ≡ x = same_Some k.0 x (sym k.1 ∙ ap (slice_get core.methods) number ∙ here) in
        let owner : owned (first_own + w.entity) o.owner o.member ≡ o = ap (λ n. owned n o.owner o.member) (sym w.number) in
        subst (λ z. ByTables core (members file.entities o.owner) (1 + i) z x) owner (subst (λ y. ByTables core (members file.entities o.owner) (1 + i) (owned (first_own + w.entity) o.owner o.member) y) same (subst (λ n. ByTables core (members file.entities o.owner) n (owned (first_own + w.entity) o.owner o.member) k.0) number k.2))

    parts_same : parts_of file ≡ Ok (record { methods = core.methods; slots = core.slots; nodes = core.nodes })
    parts_same =
        let slots : Follow 0 (map slots_run (print_method 1 ∷ drop 1 core.methods)) (length core.slots) = subst (λ xs. Follow 0 (map slots_run xs) (length core.slots)) methods_split s.slots_follow in
        let nodes : Follow 0 (map nodes_run (print_method 1 ∷ drop 1 core.methods)) (length core.nodes) = subst (λ xs. Follow 0 (map nodes_run xs) (length core.nodes)) methods_split s.nodes_follow in
        let count = methods_count in
        let rest : length (drop 1 core.methods) ≡ length core.methods - 1 = length-drop 1 core.methods in
        let size : length all ≡ length (drop 1 core.methods) = omega (arith, count, rest) in
        walk file core texts_same names_differ seen_same entities_differ s.few_nodes all (drop 1 core.methods) (print_method 1 ∷ []) 0 0 (sym methods_split) slots.1 nodes.1 size member_stands

    core_same : core_of (above_of core) file ≡ Ok core
    core_same =
        ap (λ r. if_ok r (λ p. Ok (core_with file (above_of core) p))) parts_same
        ∙ ap₂ (λ es xs. Ok (core_from es xs core.methods core.slots core.nodes)) (sym entities_same) (sym texts_same)

    few : length (texts_of_file file) < 2 ^ 32
    few = subst (λ xs. length xs < 2 ^ 32) texts_same s.few_texts

    pub is_made : Stands file core
    is_made = (names, collected, core_same, few)

pub standing_cores_are_made : StandingCoresAreMade
standing_cores_are_made file core s = is_made file core s

pub standing_cores_are_one : StandingCoresAreOne
standing_cores_are_one file one other s t = one_core file one other (standing_cores_are_made file one s) (standing_cores_are_made file other t)
