-- The core computed from a file is its core.
use Rattle.std.proofs.{Common.{◌≡◌, ℕ, zero, suc, ◌+◌, ◌<◌, ◌≤◌, ◌^◌, List, [], length, map, Some, refl, sym, ap, ◌∙◌, subst, arith, inl, inr}, lemmas.Option.{same_Some, none-some}, lemmas.List.length-map}
use Rattle.std.specs.{Prelude.{slice_get, position, codes}, Str.bytes_eq}
use Rattle.pc_base.specs.{Limits.method_limit, Lists.{Has, Follow}}
use Rattle.pc_base.proofs.{Gets.{map_get, get_map, get_append, get_below, get_within}, Elements.{ascends_none, has_front}}
use Rattle.pc_tree.specs.{declared.written_names.Name.Name, Kinds.first_own}
use Rattle.pc_tree.specs.Tree as t
use Rattle.pc_core.specs.{declared.declarations.EntityDef.EntityDef, declared.declarations.Method.Method, CoreData.CoreData, Entities.HasBuiltIn}
use Rattle.pc_members.specs.{Members.{IsAbove, IsTransitiveClosure, LeadsInFile, Member, built_in_names, entity_names, field_texts, method_texts}, Parts.or_nil, Founded.IsFounded, MemberLists.members}
use Rattle.pc_members.specs.Members as chains
use Rattle.pc_members.proofs.{Closings.no_entity, Named.is_trait_named}
use Rattle.pc_names.proofs.Founded.{collected_founded}
use Rattle.pc_file_spec.specs.Cores.{Owned, owned, texts_of_file, known_of, default_cap, Parts, built_in_parts, core_with, built_ins, core_field, core_entity, entities_from}
use Rattle.pc_file_spec.proofs.{Entities.position_get, Tables.{language_kept, member_there, text_found}, Owners.{starts, methods_run, members_follow}, Collects.{Collects, collects}, Counts.members_limited, Parts.{At, AllAt}, Formation.{stands_with, parts_are}, Settings.{all_members, entities_length, entity_get, entity_cases, method_at, at_get}}
use Rattle.pc_core_relation.specs.{Files.{NamesAreRight, FieldStands, EntityStands, IsCoreOf, EntityHasName, MethodStands}, Parts.above_of, Laws.MadeCoresStand}
use Rattle.pc_core_relation.proofs.{Lists.map_matches, Texts.texts_are_firsts, Types.{entity_name, numbers_match}, Contexts.{all_names, own_at}, Members.{type_stands, member_stands}, Inherited.members_have, Mirror.cap_said, Sound.names_are_right}

-- ---- what is above the built-in entities

nothing_above : (file : t.File) (n : ℕ) (b : ℕ) → ((e : t.Entity) → chains.entity_at file n e → ⊥) → LeadsInFile file n b → ⊥
nothing_above file n b f (chains.one h) = f h.0 h.1
nothing_above file n b f (chains.more h r) = f h.0 h.1

no_leads : (file : t.File) (n : ℕ) (x : EntityDef) → slice_get built_ins n ≡ Some x → (e : t.Entity) → chains.entity_at file n e → ⊥
no_leads file zero x h e g = no_entity e g
no_leads file (suc zero) x h e g = no_entity e g
no_leads file (suc (suc zero)) x h e g = no_entity e g
no_leads file (suc (suc (suc zero))) x h e g = no_entity e g
no_leads file (suc (suc (suc (suc zero)))) x h e g = no_entity e g
no_leads file (suc (suc (suc (suc (suc zero))))) x h e g = no_entity e g
no_leads file (suc (suc (suc (suc (suc (suc n)))))) x h e g = none-some x h

bare : (n : ℕ) (x : EntityDef) → slice_get built_ins n ≡ Some x → x.above ≡ []
bare zero x h = ap (λ (y : EntityDef). y.above) (sym (same_Some _ x h))
bare (suc zero) x h = ap (λ (y : EntityDef). y.above) (sym (same_Some _ x h))
bare (suc (suc zero)) x h = ap (λ (y : EntityDef). y.above) (sym (same_Some _ x h))
bare (suc (suc (suc zero))) x h = ap (λ (y : EntityDef). y.above) (sym (same_Some _ x h))
bare (suc (suc (suc (suc zero)))) x h = ap (λ (y : EntityDef). y.above) (sym (same_Some _ x h))
bare (suc (suc (suc (suc (suc zero))))) x h = ap (λ (y : EntityDef). y.above) (sym (same_Some _ x h))
bare (suc (suc (suc (suc (suc (suc n)))))) x h = absurd (none-some x h)

none_above : (file : t.File) (n : ℕ) (x : EntityDef) → slice_get built_ins n ≡ Some x → IsAbove file n x.above
none_above file n x h = subst (IsAbove file n) (sym (bare n x h)) (ascends_none, λ b. (λ (g : Has [] b). absurd (none-some b g.1), λ (g : LeadsInFile file n b). absurd (nothing_above file n b (no_leads file n x h) g)))

-- ---- the parts of the core

module _ (file : t.File) (above : List (List ℕ)) (q : Parts) (c : Collects file above) (closes : IsTransitiveClosure file above) (founded : IsFounded file) (parts : AllAt file built_in_parts (all_members file) q) where
  abbrev core : CoreData
  core = core_with file above q

  listed : (n : ℕ) → n < length above → IsAbove file n (or_nil (slice_get above n))
  listed n l =
      let g = get_within above n l in
      subst (λ o. IsAbove file n (or_nil o)) (sym g.1) (closes.1 n g.0 g.1)

  entity_above : (n : ℕ) (x : EntityDef) → slice_get core.entities n ≡ Some x → IsAbove file n x.above
  entity_above n x h = elim (entity_cases file above q n x h) [
    | inl b ↦ none_above file n x b
    | inr f ↦
        let below = get_below core.entities n x h in
        let total = entities_length file above q in
        let count = closes.0 in
        let l : n < length above = omega (arith, below, total, count) in
        let same : or_nil (slice_get above n) ≡ x.above = ap (λ k. or_nil (slice_get above k)) f.number ∙ ap (λ (y : EntityDef). y.above) f.same in
        subst (IsAbove file n) same (listed n l)
  ]

  above_closes : IsTransitiveClosure file (above_of core)
  above_closes = (
    length-map core.entities (λ (x : EntityDef). x.above) ∙ entities_length file above q,
    λ n l h. let r = map_get (λ (x : EntityDef). x.above) core.entities n l h in subst (IsAbove file n) r.2 (entity_above n r.0 r.1),
  )

  built_in : HasBuiltIn core
  built_in = record {
    none = refl;
    numbers = refl;
    truths = refl;
    texts = refl;
    out = 0;
    out_name = language_kept file 0 (codes "out") refl;
    env = refl;
    stream = refl;
    print = 1;
    print_name = language_kept file 1 (codes "print") refl;
    method = ap (λ xs. slice_get xs 0) parts.extends.is_methods;
  }

  -- ---- the file's entities

  own_method : (i j : ℕ) (e : t.Entity) (m : Member) → slice_get file.entities i ≡ Some e → slice_get (members file.entities e) j ≡ Some m
      → (y : Method) × (slice_get core.methods (1 + starts file.entities file.entities i + j) ≡ Some y) × MethodStands core (members file.entities e) (first_own + i) e m (1 + starts file.entities file.entities i + j) y
  own_method i j e m h g =
      let o : Owned = owned (first_own + i) e m in
      let a : At file q (1 + starts file.entities file.entities i + j) o = own_at file above q c parts i j e m h g in
      (method_at file q _ o a, at_get file q _ o a, member_stands file above q c parts _ o a (i, h) (j, g))

  field_stands : (i : ℕ) (e : t.Entity) (f : t.Field) → slice_get file.entities i ≡ Some e → Has e.fields f → FieldStands core f (core_field (texts_of_file file) (known_of file) f)
  field_stands i e f h g =
      let text : Has (texts_of_file file) f.name.text = member_there file e f.name.text (i, h) (has_front (field_texts e.fields) (method_texts e.methods) f.name.text (g.0, get_map (λ (y : t.Field). y.name.text) e.fields g.0 f g.1)) in
      record { name = text_found (texts_of_file file) f.name.text text; fixed = refl; ty = type_stands file above q c parts f.ty ((c.sound e (i, h)).fields f g) }

  -- What an `is` list names is an entity of the file.
  provided : (i : ℕ) (e : t.Entity) (n : Name) → slice_get file.entities i ≡ Some e → Has e.provides n → Has (entity_names file) n.text
  provided i e n h g =
      let r = is_trait_named file.entities n.text ((c.sound e (i, h)).provides n g) in
      (first_own + r.1.0, get_append built_in_names (chains.texts_of file.entities) r.1.0 ∙ get_map (λ (y : t.Entity). y.name.text) file.entities r.1.0 r.0 r.1.1 ∙ ap Some r.3)

  named : (n : Name) (b : ℕ) → position (bytes_eq n.text) (entity_names file) ≡ Some b → EntityHasName core n b
  named n b h =
      let at : slice_get (map entity_name core.entities) b ≡ Some n.text = ap (λ xs. slice_get xs b) (all_names file above q c parts) ∙ position_get n.text (entity_names file) b h in
      let r = map_get entity_name core.entities b n.text at in
      (r.0, r.1, r.2)

  entity_stands : (i : ℕ) (e : t.Entity) → slice_get file.entities i ≡ Some e → EntityStands file core (first_own + i) e (core_entity file above (first_own + i) (1 + starts file.entities file.entities i) e)
  entity_stands i e h =
      let numbers = numbers_match (entity_names file) e.provides c.names (λ n g. provided i e n h g) in
      record {
        kind = refl;
        cap = cap_said e.kind e.cap (default_cap e.kind e.cap) refl;
        name = refl;
        span = refl;
        provides = (numbers.0, λ k n b x y. named n b (numbers.1 k n b x y));
        fields = map_matches (FieldStands core) (core_field (texts_of_file file) (known_of file)) e.fields (λ f g. field_stands i e f h g);
        members = members file.entities e;
        are_members = members_have file above founded closes e (i, h);
        count = refl;
        methods = λ j m g. own_method i j e m h g;
      }

  methods_follow : Follow 0 (map methods_run core.entities) (length core.methods)
  methods_follow =
      let own : Follow 1 (map methods_run (entities_from file above first_own 1 file.entities)) (1 + length (all_members file)) = members_follow file above file.entities first_own 1 in
      let count = parts.count in
      (refl, (refl, (refl, (refl, (refl, (refl, subst (λ k. Follow 1 (map methods_run (entities_from file above first_own 1 file.entities)) k) (sym count) own))))))

  methods_limited : length core.methods ≤ 1 + method_limit
  methods_limited =
      let count : length q.methods ≡ 1 + length (all_members file) = parts.count in
      let few : length (all_members file) ≤ method_limit = members_limited file above c in
      omega (arith, count, few)

  pub stands_for : NamesAreRight file → length (texts_of_file file) < 2 ^ 32 → IsCoreOf file core
  stands_for fit few = record {
    above = above_closes;
    names_are_right = fit;
    texts = texts_are_firsts file;
    few_texts = few;
    built_in = built_in;
    entities = λ i e h. (core_entity file above (first_own + i) (1 + starts file.entities file.entities i) e, entity_get file above q i e h, entity_stands i e h);
    methods_follow = methods_follow;
    slots_follow = parts.good.slots_follow;
    nodes_follow = parts.good.nodes_follow;
    few_methods = methods_limited;
    few_nodes = parts.good.nodes;
  }

-- ---- the whole core

pub made_cores_stand : MadeCoresStand
made_cores_stand file core made =
    let above = made.0.above in
    let w = stands_with file above core made.2 in
    subst (IsCoreOf file) w.2 (stands_for file above w.0 (collects file made.0 made.1) made.1.above (collected_founded file made.0 made.1) (parts_are file w.0 w.1) (names_are_right file made.0 made.1) made.3)
