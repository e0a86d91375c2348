-- The type found by a name among the entities of a core is the one that it means.
use Rattle.std.proofs.{Common.{◌≡◌, ℕ, zero, suc, ◌+◌, List, [], ◌∷◌, ◌++◌, map, Some, Bool, true, false, refl, sym, ap, ap₂, ◌∙◌, subst, arith, if◌then◌else◌}, lemmas.Option.{same_Some, none-some}}
use Rattle.std.specs.{Prelude.{slice_get, position, option_to_list}, Str.bytes_eq}
use Rattle.pc_caps.specs.declared.capability.Cap.{Cap}
use Rattle.pc_base.specs.Lists.{Has, Differ, Text}
use Rattle.pc_base.proofs.{Bools.true_false, Gets.{get_map, map_get}}
use Rattle.pc_tree.specs.{declared.written_names.Name.Name, declared.written_names.TypeRef.TypeRef}
use Rattle.pc_core.specs.{declared.declarations.EntityDef.EntityDef, CoreData.CoreData}
use Rattle.pc_members.specs.Edges.{entity_numbers}
use Rattle.pc_body_spec.specs.{Bodies.KnownEntity, Parts.cap_or, Fold.type_of_name}
use Rattle.pc_file_spec.specs.Cores.{or_value, type_in}
use Rattle.pc_file_spec.proofs.Aboves.{get_position}
use Rattle.pc_members.proofs.Differences.{equal_texts, same_text}
use Rattle.pc_core_relation.specs.{Files.{Match, IsType, seen_entity}, Parts.seen_entities}
use Rattle.pc_core_relation.proofs.Lists.{match_none, match_cons, match_rest}

-- ---- what is found

-- What a name finds: an entity with this name.
record Found (at : ℕ) (xs : List KnownEntity) (ty : TypeRef) (p : ℕ × Cap) : Type 0 where
  place : ℕ
  known : KnownEntity
  is_known : slice_get xs place ≡ Some known
  number : p.0 ≡ at + place
  name : known.name ≡ ty.name.text
  cap : p.1 ≡ cap_or ty.cap known.cap

found_on : (at : ℕ) (x : KnownEntity) (xs : List KnownEntity) (ty : TypeRef) (p : ℕ × Cap) → Found (suc at) xs ty p → Found at (x ∷ xs) ty p
found_on at x xs ty p f = let e = f.number in record { place = suc f.place; known = f.known; is_known = f.is_known; number = omega (arith, e); name = f.name; cap = f.cap }

found : (at : ℕ) (xs : List KnownEntity) (ty : TypeRef) (p : ℕ × Cap) → type_of_name at xs ty ≡ Some p → Found at xs ty p
found at [] ty p h = absurd (none-some p h)
found at (x ∷ xs) ty p h = by (λ g. found (suc at) xs ty p g) (bytes_eq x.name ty.name.text) refl h
  where
    by : (type_of_name (suc at) xs ty ≡ Some p → Found (suc at) xs ty p) → (b : Bool) → bytes_eq x.name ty.name.text ≡ b → (if b then Some (at, cap_or ty.cap x.cap) else type_of_name (suc at) xs ty) ≡ Some p → Found at (x ∷ xs) ty p
    by rest true e g =
        let same = same_Some (at, cap_or ty.cap x.cap) p g in
        let first : at ≡ p.0 = ap (λ (q : ℕ × Cap). q.0) same in
        record { place = 0; known = x; is_known = refl; number = omega (arith, first); name = equal_texts x.name ty.name.text e; cap = sym (ap (λ (q : ℕ × Cap). q.1) same) }
    by rest false e g = found_on at x xs ty p (rest g)

-- A name that is there finds something.
finds : (at : ℕ) (xs : List KnownEntity) (ty : TypeRef) (i : ℕ) (y : KnownEntity) → slice_get xs i ≡ Some y → y.name ≡ ty.name.text → (p : ℕ × Cap) × (type_of_name at xs ty ≡ Some p)
finds at [] ty i y h e = absurd (none-some y h)
finds at (x ∷ xs) ty i y h e = by (λ j g. finds (suc at) xs ty j y g e) (bytes_eq x.name ty.name.text) refl i h
  where
    by : ((j : ℕ) → slice_get xs j ≡ Some y → (p : ℕ × Cap) × (type_of_name (suc at) xs ty ≡ Some p)) → (b : Bool) → bytes_eq x.name ty.name.text ≡ b → (i : ℕ) → slice_get (x ∷ xs) i ≡ Some y
        → (p : ℕ × Cap) × ((if b then Some (at, cap_or ty.cap x.cap) else type_of_name (suc at) xs ty) ≡ Some p)
    by rest true d i g = ((at, cap_or ty.cap x.cap), refl)
    by rest false d zero g = absurd (true_false (sym (ap (λ (z : KnownEntity). bytes_eq z.name ty.name.text) (same_Some x y g) ∙ ap (λ z. bytes_eq z ty.name.text) e ∙ same_text ty.name.text) ∙ d))
    by rest false d (suc i) g = rest i g

-- ---- in a core

abbrev pub entity_name : EntityDef → Text
entity_name x = x.name

pub type_is : (core : CoreData) (ty : TypeRef) (p : ℕ × Cap) → type_of_name 0 (seen_entities core) ty ≡ Some p → IsType core ty p
type_is core ty p h =
    let f : Found 0 (seen_entities core) ty p = found 0 (seen_entities core) ty p h in
    let r = map_get (seen_entity core) core.entities f.place f.known f.is_known in
    let first = f.number in
    let place : f.place ≡ p.0 = omega (arith, first) in
    (r.0, ap (slice_get core.entities) (sym place) ∙ r.1, ap (λ (z : KnownEntity). z.name) r.2 ∙ f.name, f.cap ∙ ap (λ (z : KnownEntity). cap_or ty.cap z.cap) (sym r.2))

pub type_found : (core : CoreData) (ty : TypeRef) → Has (map entity_name core.entities) ty.name.text → (p : ℕ × Cap) × (type_of_name 0 (seen_entities core) ty ≡ Some p)
type_found core ty h =
    let r = map_get entity_name core.entities h.0 ty.name.text h.1 in
    finds 0 (seen_entities core) ty h.0 (seen_entity core r.0) (get_map (seen_entity core) core.entities h.0 r.0 r.1) r.2

pub is_type : (core : CoreData) (ty : TypeRef) (p : ℕ × Cap) → Differ (map entity_name core.entities) → IsType core ty p → type_of_name 0 (seen_entities core) ty ≡ Some p
is_type core ty p differ h =
    let here : slice_get (map entity_name core.entities) p.0 ≡ Some ty.name.text = get_map entity_name core.entities p.0 h.0 h.1 ∙ ap Some h.2 in
    let r = type_found core ty (p.0, here) in
    let f = type_is core ty r.0 r.1 in
    let there : slice_get (map entity_name core.entities) r.0.0 ≡ Some ty.name.text = get_map entity_name core.entities r.0.0 f.0 f.1 ∙ ap Some f.2 in
    let place : r.0.0 ≡ p.0 = differ r.0.0 p.0 ty.name.text there here in
    let one : f.0 ≡ h.0 = same_Some f.0 h.0 (sym f.1 ∙ ap (slice_get core.entities) place ∙ h.1) in
    let same : r.0.1 ≡ p.1 = f.3 ∙ ap (λ (z : EntityDef). cap_or ty.cap z.cap) one ∙ sym h.3 in
    r.1 ∙ ap₂ (λ a b. Some (a, b)) place same

-- A type whose entity exists is that one.
pub type_there : (core : CoreData) (ty : TypeRef) → Has (map entity_name core.entities) ty.name.text → IsType core ty (type_in (seen_entities core) ty)
type_there core ty h =
    let r = type_found core ty h in
    subst (IsType core ty) (sym (ap or_value r.1)) (type_is core ty r.0 r.1)

-- ---- the numbers of names

-- The numbers of names that all exist.
pub numbers_match : (names : List Text) (ns : List Name) → Differ names → ((n : Name) → Has ns n → Has names n.text) → Match (λ n b. position (bytes_eq n.text) names ≡ Some b) ns (entity_numbers names ns)
numbers_match names [] d h = match_none (λ n b. position (bytes_eq n.text) names ≡ Some b)
numbers_match names (n ∷ ns) d h =
    let there = h n (0, refl) in
    let is : position (bytes_eq n.text) names ≡ Some there.0 = get_position names n.text there.0 d there.1 in
    let rest = numbers_match names ns d (λ m g. h m (suc g.0, g.1)) in
    subst (λ o. Match (λ (m : Name) (b : ℕ). position (bytes_eq m.text) names ≡ Some b) (n ∷ ns) (option_to_list o ++ entity_numbers names ns)) (sym is) (match_cons (λ (m : Name) (b : ℕ). position (bytes_eq m.text) names ≡ Some b) n there.0 ns (entity_numbers names ns) is rest)

-- Names with these numbers.
pub numbers_one : (names : List Text) (ns : List Name) (bs : List ℕ) → Differ names → Match (λ n b. slice_get names b ≡ Some n.text) ns bs → entity_numbers names ns ≡ bs
numbers_one names [] [] d h = refl
numbers_one names [] (b ∷ bs) d h = let e = h.0 in absurd (omega (arith, e))
numbers_one names (n ∷ ns) [] d h = let e = h.0 in absurd (omega (arith, e))
numbers_one names (n ∷ ns) (b ∷ bs) d h =
    let is : position (bytes_eq n.text) names ≡ Some b = get_position names n.text b d (h.1 0 n b refl refl) in
    let rest : entity_numbers names ns ≡ bs =
    numbers_one names ns bs d (match_rest (λ (m : Name) (k : ℕ). slice_get names k ≡ Some m.text) n b ns bs h) in
    ap (λ o. option_to_list o ++ entity_numbers names ns) is ∙ ap (λ ks. b ∷ ks) rest
