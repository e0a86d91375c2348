-- What is found by an index is what the lists define.
use Rattle.pc_members.specs.MemberLists as memberlists
use Rattle.std.proofs.{Common.{◌≡◌, ℕ, suc, List, [], ◌∷◌, ◌++◌, Bool, true, false, ◌||◌, cond, map, length, take, drop, Option, Some, None, is_some, refl, sym, ap, ◌∙◌, arith, if◌then◌else◌}, lemmas.Bool.eqb-true, lemmas.List.{append_assoc, length-append, take-append-drop}, lemmas.List.Folds.list_any-append, lemmas.Slice.Eq.bytes_eq-Decides}
use Rattle.std.specs.{Prelude.nat_eq, Map.lookup, Option.{option_map, unwrap_or}, Str.bytes_eq}
use Rattle.pc_base.proofs.Gets.{get_behind}
use Rattle.pc_caps.specs.declared.capability.Cap.{Cap}
use Rattle.pc_tree.specs.declared.written_names.TypeRef.{TypeRef}
use Rattle.pc_members.specs.Members as words
use Rattle.pc_members.specs.MemberLists.{with_name, with_names}
use Rattle.pc_body_spec.specs.{Bodies.{Constructor, KnownEntity, PlacedLocal, Visible, TypeMeaning, no_value, is_among_names, slot_named, slot_at, constructor_named, type_from, by_kind, is_own}, Faults.is_entity, Fold.type_of_name, Parts.cap_or}
use Rattle.pc_resolve.specs.{Indexes.firsts, Pairs.{constructor_pair, visible_pair, placed_pair, known_pairs, known_at, picked}}
use Rattle.pc_resolve.proofs.{Indexes.{lookup_firsts, or_else}, Texts.{bytes_eq_sym, nat_eq_sym}}

same_bytes : (a b : List ℕ) → bytes_eq a b ≡ true → a ≡ b
same_bytes a b h = (bytes_eq-Decides a b).0 h

-- ---- constructors

constructor_first : (cs : List Constructor) (name : List ℕ) → constructor_named cs name ≡ lookup (bytes_eq name) (map constructor_pair cs)
constructor_first [] name = refl
constructor_first (c ∷ cs) name = rw (bytes_eq_sym c.name name, constructor_first cs name) refl

pub constructor_found : (cs : List Constructor) (name : List ℕ) → constructor_named cs name ≡ lookup (bytes_eq name) (firsts bytes_eq (map constructor_pair cs))
constructor_found cs name = constructor_first cs name ∙ sym (lookup_firsts bytes_eq same_bytes (map constructor_pair cs) name)

-- The first constructors, and then the others.
constructor_in_parts : (as' bs : List Constructor) (name : List ℕ) → constructor_named (as' ++ bs) name ≡ or_else (constructor_named as' name) (constructor_named bs name)
constructor_in_parts [] bs name = refl
constructor_in_parts (c ∷ cs) bs name = by (bytes_eq c.name name) (constructor_in_parts cs bs name)
  where
    by : (b : Bool) → constructor_named (cs ++ bs) name ≡ or_else (constructor_named cs name) (constructor_named bs name)
        → (if b then Some c.method else constructor_named (cs ++ bs) name) ≡ or_else (if b then Some c.method else constructor_named cs name) (constructor_named bs name)
    by true rec = refl
    by false rec = rec

constructor_cut : (k : ℕ) (cs : List Constructor) (name : List ℕ) → constructor_named cs name ≡ or_else (constructor_named (take k cs) name) (constructor_named (drop k cs) name)
constructor_cut k cs name = ap (λ l. constructor_named l name) (sym (take-append-drop k cs)) ∙ constructor_in_parts (take k cs) (drop k cs) name

pub constructor_near : (k : ℕ) (cs : List Constructor) (name : List ℕ) (n : ℕ) → constructor_named (take k cs) name ≡ Some n → Some n ≡ constructor_named cs name
constructor_near k cs name n h = sym (constructor_cut k cs name ∙ ap (λ o. or_else o (constructor_named (drop k cs) name)) h)

pub constructor_far : (k : ℕ) (cs : List Constructor) (methods : List (List ℕ × ℕ)) (name : List ℕ) → methods ≡ firsts bytes_eq (map constructor_pair (drop k cs)) → constructor_named (take k cs) name ≡ None → lookup (bytes_eq name) methods ≡ constructor_named cs name
constructor_far k cs methods name e h = ap (lookup (bytes_eq name)) e ∙ (sym (constructor_found (drop k cs) name) ∙ sym (constructor_cut k cs name ∙ ap (λ o. or_else o (constructor_named (drop k cs) name)) h))

-- ---- names in a scope

visible_first : (vs : List Visible) (name : List ℕ) → slot_named vs name ≡ lookup (bytes_eq name) (map visible_pair vs)
visible_first [] name = refl
visible_first (v ∷ vs) name = rw (bytes_eq_sym v.name name, visible_first vs name) refl

pub visible_found : (vs : List Visible) (name : List ℕ) → slot_named vs name ≡ lookup (bytes_eq name) (firsts bytes_eq (map visible_pair vs))
visible_found vs name = visible_first vs name ∙ sym (lookup_firsts bytes_eq same_bytes (map visible_pair vs) name)

slot_in_parts : (vs ws : List Visible) (name : List ℕ) → slot_named (vs ++ ws) name ≡ or_else (slot_named vs name) (slot_named ws name)
slot_in_parts [] ws name = refl
slot_in_parts (v ∷ vs) ws name = by (bytes_eq v.name name) (slot_in_parts vs ws name)
  where
    by : (b : Bool) → slot_named (vs ++ ws) name ≡ or_else (slot_named vs name) (slot_named ws name)
        → (if b then Some v.slot else slot_named (vs ++ ws) name) ≡ or_else (if b then Some v.slot else slot_named vs name) (slot_named ws name)
    by true rec = refl
    by false rec = rec

-- The first ones, and then the others.
pub slot_cut : (k : ℕ) (vs : List Visible) (name : List ℕ) → slot_named vs name ≡ or_else (slot_named (take k vs) name) (slot_named (drop k vs) name)
slot_cut k vs name = ap (λ l. slot_named l name) (sym (take-append-drop k vs)) ∙ slot_in_parts (take k vs) (drop k vs) name

-- ---- the slots of locals

slot_first : (ps : List PlacedLocal) (start : ℕ) → slot_at ps start ≡ unwrap_or (lookup (nat_eq start) (map placed_pair ps)) 0
slot_first [] start = refl
slot_first (p ∷ ps) start = rw (nat_eq_sym p.start start, slot_first ps start) (by (nat_eq start p.start))
  where
    by : (b : Bool) → (if b then p.slot else unwrap_or (lookup (nat_eq start) (map placed_pair ps)) 0) ≡ unwrap_or (cond b (Some p.slot) (lookup (nat_eq start) (map placed_pair ps))) 0
    by true = refl
    by false = refl

pub slot_found : (ps : List PlacedLocal) (start : ℕ) → slot_at ps start ≡ unwrap_or (lookup (nat_eq start) (firsts nat_eq (map placed_pair ps))) 0
slot_found ps start = slot_first ps start ∙ ap (λ o. unwrap_or o 0) (sym (lookup_firsts nat_eq eqb-true (map placed_pair ps) start))

-- ---- names in a table

among_with : (names : List (List ℕ)) (x name : List ℕ) → memberlists.is_among name (with_name names x) ≡ (memberlists.is_among name names || bytes_eq name x)
among_with names x name = by (memberlists.is_among x names) refl
  where
    or_false : (b : Bool) → (b || false) ≡ b
    or_false true = refl
    or_false false = refl

    there : (b : Bool) → bytes_eq name x ≡ b → memberlists.is_among x names ≡ true → memberlists.is_among name names ≡ (memberlists.is_among name names || b)
    there true e h = let g : memberlists.is_among name names ≡ true = ap (λ n. memberlists.is_among n names) (same_bytes name x e) ∙ h in g ∙ sym (ap (λ b. b || true) g)
    there false e h = sym (or_false (memberlists.is_among name names))

    by : (b : Bool) → memberlists.is_among x names ≡ b → memberlists.is_among name (if b then names else names ++ x ∷ []) ≡ (memberlists.is_among name names || bytes_eq name x)
    by true h = there (bytes_eq name x) refl h
    by false h = list_any-append (bytes_eq name) names (x ∷ []) ∙ ap (λ b. memberlists.is_among name names || b) (or_false (bytes_eq name x))

or_among : (names xs : List (List ℕ)) (name : List ℕ)
    → memberlists.is_among name (with_names names xs) ≡ (memberlists.is_among name names || is_among_names xs name)
or_among names [] name = by (memberlists.is_among name names)
  where
    by : (b : Bool) → b ≡ (b || false)
    by true = refl
    by false = refl
or_among names (x ∷ xs) name = or_among (with_name names x) xs name ∙ rw (among_with names x name, bytes_eq_sym x name) (by (memberlists.is_among name names) (bytes_eq name x) (is_among_names xs name))
  where
    by : (a b c : Bool) → ((a || b) || c) ≡ (a || (if b then true else c))
    by true b c = refl
    by false true c = refl
    by false false c = refl

is_among_table : (names : List (List ℕ)) (name : List ℕ) → is_among_names names name ≡ memberlists.is_among name (with_names [] names)
is_among_table names name = sym (or_among [] names name)

among_in_parts : (xs ys : List (List ℕ)) (name : List ℕ) → is_among_names (xs ++ ys) name ≡ (is_among_names xs name || is_among_names ys name)
among_in_parts [] ys name = refl
among_in_parts (x ∷ xs) ys name = by (bytes_eq x name) (among_in_parts xs ys name)
  where
    by : (b : Bool) → is_among_names (xs ++ ys) name ≡ (is_among_names xs name || is_among_names ys name)
        → (if b then true else is_among_names (xs ++ ys) name) ≡ ((if b then true else is_among_names xs name) || is_among_names ys name)
    by true rec = refl
    by false rec = rec

-- The first ones, and then the others.
is_among_parts : (k : ℕ) (names : List (List ℕ)) (name : List ℕ) → is_among_names names name ≡ (is_among_names (take k names) name || memberlists.is_among name (with_names [] (drop k names)))
is_among_parts k names name = ap (λ l. is_among_names l name) (sym (take-append-drop k names)) ∙ (among_in_parts (take k names) (drop k names) name ∙ ap (λ b. is_among_names (take k names) name || b) (is_among_table (drop k names) name))

-- What is found among the first ones, and what is looked up if nothing is.
pub found_near : (k : ℕ) (names near : List (List ℕ)) (name : List ℕ) (found : Bool) → found ≡ is_among_names near name → near ≡ take k names → found ≡ true → found ≡ is_among_names names name
found_near k names near name found e n there =
    let first : is_among_names (take k names) name ≡ true = ap (λ l. is_among_names l name) (sym n) ∙ (sym e ∙ there) in
    there ∙ sym (is_among_parts k names name ∙ ap (λ b. b || memberlists.is_among name (with_names [] (drop k names))) first)

pub found_far : (k : ℕ) (names near table : List (List ℕ)) (name : List ℕ) (found later : Bool) → found ≡ is_among_names near name → near ≡ take k names → found ≡ false → later ≡ memberlists.is_among name table → table ≡ with_names [] (drop k names) → later ≡ is_among_names names name
found_far k names near table name found later e n missing is table_is =
    let first : is_among_names (take k names) name ≡ false = ap (λ l. is_among_names l name) (sym n) ∙ (sym e ∙ missing) in
    (is ∙ ap (λ l. memberlists.is_among name l) table_is) ∙ sym (is_among_parts k names name ∙ ap (λ b. b || memberlists.is_among name (with_names [] (drop k names))) first)

-- ---- entities

numbered : (before ks : List KnownEntity) (name : List ℕ) → known_at (length before) ks name ≡ picked (before ++ ks) (lookup (bytes_eq name) (known_pairs (length before) ks))
numbered before [] name = refl
numbered before (k ∷ ks) name = rw (bytes_eq_sym k.name name) (by (bytes_eq name k.name) (numbered (before ++ k ∷ []) ks name))
  where
    one_more : length (before ++ k ∷ []) ≡ suc (length before)
    one_more = let e = length-append before (k ∷ []) in omega (arith, e)

    by : (b : Bool) → known_at (length (before ++ k ∷ [])) ks name ≡ picked ((before ++ k ∷ []) ++ ks) (lookup (bytes_eq name) (known_pairs (length (before ++ k ∷ [])) ks))
        → (if b then Some (length before, k) else known_at (suc (length before)) ks name) ≡ picked (before ++ k ∷ ks) (cond b (Some (length before)) (lookup (bytes_eq name) (known_pairs (suc (length before)) ks)))
    by true rec = sym (ap (option_map (λ x. (length before, x))) (get_behind before k ks))
    by false rec = ap (λ n. known_at n ks name) (sym one_more) ∙ (rec ∙ (ap (λ w. picked w (lookup (bytes_eq name) (known_pairs (length (before ++ k ∷ [])) ks))) (append_assoc before (k ∷ []) ks) ∙ ap (λ n. picked (before ++ k ∷ ks) (lookup (bytes_eq name) (known_pairs n ks))) one_more))

pub entity_found : (ks : List KnownEntity) (name : List ℕ) → known_at 0 ks name ≡ picked ks (lookup (bytes_eq name) (firsts bytes_eq (known_pairs 0 ks)))
entity_found ks name = numbered [] ks name ∙ ap (picked ks) (sym (lookup_firsts bytes_eq same_bytes (known_pairs 0 ks) name))

abbrev pub meaning_at : Option (ℕ × KnownEntity) → TypeMeaning
meaning_at None = no_value
meaning_at (Some p) = if is_own p.0 then by_kind p.1.kind p.0 p.1.constructors else no_value

type_at : (at : ℕ) (ks : List KnownEntity) (name : List ℕ) → type_from at ks name ≡ meaning_at (known_at at ks name)
type_at at [] name = refl
type_at at (k ∷ ks) name = by (bytes_eq k.name name) (type_at (suc at) ks name)
  where
    by : (b : Bool) → type_from (suc at) ks name ≡ meaning_at (known_at (suc at) ks name) → (if b then (if is_own at then by_kind k.kind at k.constructors else no_value) else type_from (suc at) ks name) ≡ meaning_at (if b then Some (at, k) else known_at (suc at) ks name)
    by true rec = refl
    by false rec = rec

pub type_found : (ks : List KnownEntity) (name : List ℕ) → type_from 0 ks name ≡ meaning_at (known_at 0 ks name)
type_found ks name = type_at 0 ks name

is_entity_at : (at : ℕ) (ks : List KnownEntity) (name : List ℕ) → is_entity ks name ≡ is_some (known_at at ks name)
is_entity_at at [] name = refl
is_entity_at at (k ∷ ks) name = by (bytes_eq k.name name) (is_entity_at (suc at) ks name)
  where
    by : (b : Bool) → is_entity ks name ≡ is_some (known_at (suc at) ks name) → (if b then true else is_entity ks name) ≡ is_some (if b then Some (at, k) else known_at (suc at) ks name)
    by true rec = refl
    by false rec = rec

pub is_entity_found : (ks : List KnownEntity) (name : List ℕ) → is_entity ks name ≡ is_some (known_at 0 ks name)
is_entity_found ks name = is_entity_at 0 ks name

abbrev pub written_at : TypeRef → Option (ℕ × KnownEntity) → Option (ℕ × Cap)
written_at ty None = None
written_at ty (Some p) = Some (p.0, cap_or ty.cap p.1.cap)

type_of_at : (at : ℕ) (ks : List KnownEntity) (ty : TypeRef) → type_of_name at ks ty ≡ written_at ty (known_at at ks ty.name.text)
type_of_at at [] ty = refl
type_of_at at (k ∷ ks) ty = by (bytes_eq k.name ty.name.text) (type_of_at (suc at) ks ty)
  where
    by : (b : Bool) → type_of_name (suc at) ks ty ≡ written_at ty (known_at (suc at) ks ty.name.text) → (if b then Some (at, cap_or ty.cap k.cap) else type_of_name (suc at) ks ty) ≡ written_at ty (if b then Some (at, k) else known_at (suc at) ks ty.name.text)
    by true rec = refl
    by false rec = rec

pub written_found : (ks : List KnownEntity) (ty : TypeRef) → type_of_name 0 ks ty ≡ written_at ty (known_at 0 ks ty.name.text)
written_found ks ty = type_of_at 0 ks ty
