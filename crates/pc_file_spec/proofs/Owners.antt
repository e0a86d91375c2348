-- Entities and their members, by their numbers.
use Rattle.std.proofs.{Common.{◌≡◌, ℕ, zero, suc, ◌+◌, ◌-◌, List, [], ◌∷◌, length, map, Some, Bool, true, false, refl, sym, ap, ◌∙◌, subst, arith, if◌then◌else◌, inl, inr}, lemmas.Option.{same_Some, none-some}, lemmas.List.{length-append, length-map}}
use Rattle.std.specs.Prelude.{slice_get}
use Rattle.pc_base.proofs.Gets.{get_front, append_get, get_append, get_map, map_get}
use Rattle.pc_tree.specs.Tree as t
use Rattle.pc_core.specs.declared.declarations.EntityDef.{EntityDef}
use Rattle.pc_base.specs.Lists.{Follow}
use Rattle.pc_body_spec.specs.Bodies.{KnownEntity, Constructor}
use Rattle.pc_members.specs.{Members.{Member, member_text}, MemberLists.{is_constructor, members}}
use Rattle.pc_file_spec.specs.Cores.{Owned, owned, members_from, known_from, constructors_from, core_entity, entities_from}

-- How many members the first i entities have.
abbrev pub starts : List t.Entity → List t.Entity → ℕ → ℕ
starts all es zero = 0
starts all [] (suc i) = 0
starts all (e ∷ es) (suc i) = length (members all e) + starts all es i

-- ---- the entities of a core

pub entity_at : (file : t.File) (above : List (List ℕ)) (es : List t.Entity) (n at i : ℕ) (e : t.Entity) → slice_get es i ≡ Some e → slice_get (entities_from file above n at es) i ≡ Some (core_entity file above (n + i) (at + starts file.entities es i) e)
entity_at file above [] n at i e h = absurd (none-some e h)
entity_at file above (x ∷ es) n at zero e h =
    let m : n ≡ n + 0 = omega arith in
    let b : at ≡ at + 0 = omega arith in
    ap (λ y. Some (core_entity file above n at y)) (same_Some x e h) ∙ ap (λ k. Some (core_entity file above k at e)) m ∙ ap (λ k. Some (core_entity file above (n + 0) k e)) b
entity_at file above (x ∷ es) n at (suc i) e h =
    let m : suc n + i ≡ n + suc i = omega arith in
    let b : at + length (members file.entities x) + starts file.entities es i ≡ at + (length (members file.entities x) + starts file.entities es i) = omega arith in
    entity_at file above es (suc n) (at + length (members file.entities x)) i e h ∙ ap (λ k. Some (core_entity file above k (at + length (members file.entities x) + starts file.entities es i) e)) m ∙ ap (λ k. Some (core_entity file above (n + suc i) k e)) b

pub at_entity : (file : t.File) (above : List (List ℕ)) (es : List t.Entity) (n at i : ℕ) (x : EntityDef) → slice_get (entities_from file above n at es) i ≡ Some x → (e : t.Entity) × (slice_get es i ≡ Some e) × (core_entity file above (n + i) (at + starts file.entities es i) e ≡ x)
at_entity file above [] n at i x h = absurd (none-some x h)
at_entity file above (y ∷ es) n at zero x h = (y, refl, same_Some _ x (sym (entity_at file above (y ∷ es) n at zero y refl) ∙ h))
at_entity file above (y ∷ es) n at (suc i) x h =
    let r = at_entity file above es (suc n) (at + length (members file.entities y)) i x h in
    (r.0, r.1, same_Some _ x (sym (entity_at file above (y ∷ es) n at (suc i) r.0 r.1) ∙ h))

pub entities_count : (file : t.File) (above : List (List ℕ)) (es : List t.Entity) (n at : ℕ) → length (entities_from file above n at es) ≡ length es
entities_count file above [] n at = refl
entities_count file above (e ∷ es) n at = ap suc (entities_count file above es (suc n) (at + length (members file.entities e)))

abbrev pub methods_run : EntityDef → ℕ × ℕ
methods_run x = (x.first_method, x.methods)

pub members_follow : (file : t.File) (above : List (List ℕ)) (es : List t.Entity) (n at : ℕ) → Follow at (map methods_run (entities_from file above n at es)) (at + length (members_from file.entities n es))
members_follow file above [] n at = omega arith
members_follow file above (e ∷ es) n at =
    let rest = members_follow file above es (suc n) (at + length (members file.entities e)) in
    let all : length (members_from file.entities n (e ∷ es)) ≡ length (map (owned n e) (members file.entities e)) + length (members_from file.entities (suc n) es) = length-append (map (owned n e) (members file.entities e)) (members_from file.entities (suc n) es) in
    let own : length (map (owned n e) (members file.entities e)) ≡ length (members file.entities e) = length-map (members file.entities e) (owned n e) in
    let same : at + length (members file.entities e) + length (members_from file.entities (suc n) es) ≡ at + length (members_from file.entities n (e ∷ es)) = omega (arith, all, own) in
    (refl, subst (λ k. Follow (at + length (members file.entities e)) (map methods_run (entities_from file above (suc n) (at + length (members file.entities e)) es)) k) same rest)

-- ---- the members of entities

pub own_member : (all es : List t.Entity) (n i j : ℕ) (e : t.Entity) (m : Member) → slice_get es i ≡ Some e → slice_get (members all e) j ≡ Some m → slice_get (members_from all n es) (starts all es i + j) ≡ Some (owned (n + i) e m)
own_member all [] n i j e m h g = absurd (none-some e h)
own_member all (x ∷ es) n zero j e m h g =
    let k : n ≡ n + 0 = omega arith in
    let own : slice_get (members all x) j ≡ Some m = subst (λ y. slice_get (members all y) j ≡ Some m) (sym (same_Some x e h)) g in
    let z : 0 + j ≡ j = omega arith in
    ap (slice_get (members_from all n (x ∷ es))) z ∙ get_front (map (owned n x) (members all x)) (members_from all (suc n) es) j (owned n x m) (get_map (owned n x) (members all x) j m own) ∙ ap (λ y. Some (owned n y m)) (same_Some x e h) ∙ ap (λ y. Some (owned y e m)) k
own_member all (x ∷ es) n (suc i) j e m h g =
    let own : length (map (owned n x) (members all x)) ≡ length (members all x) = length-map (members all x) (owned n x) in
    let z : length (members all x) + starts all es i + j ≡ length (map (owned n x) (members all x)) + (starts all es i + j) = omega (arith, own) in
    let k : suc n + i ≡ n + suc i = omega arith in
    ap (slice_get (members_from all n (x ∷ es))) z ∙ get_append (map (owned n x) (members all x)) (members_from all (suc n) es) (starts all es i + j) ∙ own_member all es (suc n) i j e m h g ∙ ap (λ y. Some (owned y e m)) k

-- The place of a member of these entities.
pub record Owner (all es : List t.Entity) (n k : ℕ) (o : Owned) : Type 0 where
  pub entity : ℕ
  pub place : ℕ
  pub is_owner : slice_get es entity ≡ Some o.owner
  pub number : o.number ≡ n + entity
  pub is_member : slice_get (members all o.owner) place ≡ Some o.member
  pub is_place : k ≡ starts all es entity + place

pub owner_of : (all es : List t.Entity) (n k : ℕ) (o : Owned) → slice_get (members_from all n es) k ≡ Some o → Owner all es n k o
owner_of all [] n k o h = absurd (none-some o h)
owner_of all (e ∷ es) n k o h = elim (append_get (map (owned n e) (members all e)) (members_from all (suc n) es) k o h) [
  | inl a ↦
      let r = map_get (owned n e) (members all e) k o a in
      subst (λ x. Owner all (e ∷ es) n k x) r.2 (record { entity = 0; place = k; is_owner = refl; number = omega arith; is_member = r.1; is_place = omega arith })
  | inr b ↦
      let own : length (map (owned n e) (members all e)) ≡ length (members all e) = length-map (members all e) (owned n e) in
      let low = b.0 in
      let r : Owner all es (suc n) (k - length (map (owned n e) (members all e))) o = owner_of all es (suc n) (k - length (map (owned n e) (members all e))) o b.1 in
      let number = r.number in
      let place = r.is_place in
      record { entity = suc r.entity; place = r.place; is_owner = r.is_owner; number = omega (arith, number); is_member = r.is_member; is_place = omega (arith, place, own, low) }
]

-- ---- what is known about entities

pub known_at : (all es : List t.Entity) (at i : ℕ) (x : KnownEntity) → slice_get (known_from all at es) i ≡ Some x
    → (e : t.Entity) × (slice_get es i ≡ Some e) × (x.kind ≡ e.kind) × (x.constructors ≡ constructors_from (at + starts all es i) (members all e))
known_at all [] at i x h = absurd (none-some x h)
known_at all (e ∷ es) at zero x h =
    let b : at ≡ at + 0 = omega arith in
    (e, refl, ap (λ (y : KnownEntity). y.kind) (sym (same_Some _ x h)), ap (λ (y : KnownEntity). y.constructors) (sym (same_Some _ x h)) ∙ ap (λ k. constructors_from k (members all e)) b)
known_at all (e ∷ es) at (suc i) x h =
    let r = known_at all es (at + length (members all e)) i x h in
    let b : at + length (members all e) + starts all es i ≡ at + (length (members all e) + starts all es i) = omega arith in
    (r.0, r.1, r.2, r.3 ∙ ap (λ k. constructors_from k (members all r.0)) b)

pub known_count : (all es : List t.Entity) (at : ℕ) → length (known_from all at es) ≡ length es
known_count all [] at = refl
known_count all (e ∷ es) at = ap suc (known_count all es (at + length (members all e)))

pub known_names : (all es : List t.Entity) (at : ℕ) → map (λ (x : KnownEntity). x.name) (known_from all at es) ≡ map (λ (e : t.Entity). e.name.text) es
known_names all [] at = refl
known_names all (e ∷ es) at = ap (λ xs. e.name.text ∷ xs) (known_names all es (at + length (members all e)))

-- A constructor is a member, at its number.
pub constructor_at : (ms : List Member) (at i : ℕ) (y : Constructor) → slice_get (constructors_from at ms) i ≡ Some y → (j : ℕ) × (m : Member) × (slice_get ms j ≡ Some m) × (is_constructor m ≡ true) × (y.method ≡ at + j)
constructor_at [] at i y h = absurd (none-some y h)
constructor_at (m ∷ ms) at i y h = by (λ k e. constructor_at ms (suc at) k y e) (is_constructor m) refl i h
  where
    further : ((j : ℕ) × (x : Member) × (slice_get ms j ≡ Some x) × (is_constructor x ≡ true) × (y.method ≡ suc at + j)) → (j : ℕ) × (x : Member) × (slice_get (m ∷ ms) j ≡ Some x) × (is_constructor x ≡ true) × (y.method ≡ at + j)
    further r = let e = r.4 in (suc r.0, r.1, r.2, r.3, omega (arith, e))

    by : ((k : ℕ) → slice_get (constructors_from (suc at) ms) k ≡ Some y → (j : ℕ) × (x : Member) × (slice_get ms j ≡ Some x) × (is_constructor x ≡ true) × (y.method ≡ suc at + j)) → (b : Bool) → is_constructor m ≡ b → (i : ℕ)
        → slice_get (if b then record { name = member_text m; method = at } ∷ constructors_from (suc at) ms else constructors_from (suc at) ms) i ≡ Some y → (j : ℕ) × (x : Member) × (slice_get (m ∷ ms) j ≡ Some x) × (is_constructor x ≡ true) × (y.method ≡ at + j)
    by rest true e zero g = let same : at ≡ y.method = ap (λ (z : Constructor). z.method) (same_Some _ y g) in (0, m, refl, e, omega (arith, same))
    by rest true e (suc i) g = further (rest i g)
    by rest false e i g = further (rest i g)
