-- A method's place among the keys of all methods is the one found among the methods of its entity.
use Rattle.std.specs.{Prelude.{◌≡◌, ℕ, ◌+◌, ◌-◌, ◌<◌, ◌≤◌, Bool, true, false, cond, not, ◌&&◌, suc, List, [], ◌∷◌, length, map, take, nat_eq, nat_lt, Option, Some, None, slice_get, position, refl}, List.{list_any, position_or_len}}
use Rattle.std.proofs.{Common.{inl, inr, ap, sym, subst, ◌∙◌, arith}, lemmas.Bool.{and_parts, or_cases, eq-eqb, eqb-true, ltb-true, ltb-false}, lemmas.List.Sums.{passes_at_first, fails_before_first}, lemmas.Option.{get_or_from_slice_get, same_Some, none-some}}
use Rattle.pc_core.specs.{declared.declarations.EntityDef.EntityDef, declared.declarations.Method.Method, CoreData.{CoreData, own_methods, method_named, IsMethod}, Parts.{field_name, method_name}, Formed.Formed, Members.{method_among, method_found, method_missed}, MethodKeys.{method_key, is_key}}
use Rattle.pc_base.specs.Lists.{Differ}
use Rattle.pc_base.proofs.{Bools.{false_true, no_both}, Gets.{get_append, get_below, get_map, get_take, get_within, map_get, range_get}, Options.kept}

-- ---- the first place that passes a test

module _ {X : Type 0} (p : X → Bool) (xs : List X) where
  position_found : (i : ℕ) → position p xs ≡ Some i → (x : X) × (slice_get xs i ≡ Some x) × (p x ≡ true)
  position_found i e =
      let n : ℕ = position_or_len p xs in
      let k = kept (nat_lt n (length xs)) (Some n) i e in
      let l : n < length xs = ltb-true n (length xs) k.0 in
      let g = get_within xs n l in
      let same : n ≡ i = same_Some n i k.1 in
      (g.0, subst (λ m. slice_get xs m ≡ Some g.0) same g.1, ap p (sym (get_or_from_slice_get xs n g.0 g.0 g.1)) ∙ passes_at_first p xs g.0 l)

  missed : (b : Bool) (n : ℕ) → cond b (Some n) None ≡ None → b ≡ false
  missed true n e = absurd (none-some n (sym e))
  missed false n e = refl

  position_missed : position p xs ≡ None → (i : ℕ) (x : X) → slice_get xs i ≡ Some x → p x ≡ false
  position_missed e i x g =
      let n : ℕ = position_or_len p xs in
      let m : length xs ≤ n = ltb-false n (length xs) (missed (nat_lt n (length xs)) n e) in
      let k : i < length xs = get_below xs i x g in
      let l : i < n = omega (arith, m, k) in
      ap p (sym (get_or_from_slice_get xs i x x g)) ∙ fails_before_first p xs i x l

negated : (b : Bool) → not b ≡ false → b ≡ true
negated true e = refl
negated false e = absurd (no_both true refl e)

any_there : {X : Type 0} → (p : X → Bool) (xs : List X) → list_any p xs ≡ true → (i : ℕ) × (x : X) × (slice_get xs i ≡ Some x) × (p x ≡ true)
any_there p [] e = absurd (false_true e)
any_there p (x ∷ xs) e =
    elim (or_cases (p x) (list_any p xs) e) [
      | inl h ↦ (0, x, refl, h)
      | inr h ↦ let r = any_there p xs h in (suc r.0, r.1, r.2, r.3)
    ]

-- ---- keys

key_is : (entity name : ℕ) (m : Method) → is_key entity name (method_key m) ≡ true → (m.entity ≡ entity) × (m.name ≡ name)
key_is entity name m e =
    let k = and_parts (nat_eq entity m.entity) (nat_eq name m.name) e in
    (sym (eqb-true entity m.entity k.0), sym (eqb-true name m.name k.1))

is_its_key : (entity name : ℕ) (m : Method) → m.entity ≡ entity → m.name ≡ name → is_key entity name (method_key m) ≡ true
is_its_key entity name m e f = ap (λ b. b && nat_eq name m.name) (eq-eqb entity m.entity (sym e)) ∙ eq-eqb name m.name (sym f)

-- A method whose key is among those before it.
pub met_before : (ms : List Method) (i : ℕ) (m : Method) (keys : List (ℕ × ℕ)) (added : Bool) → slice_get ms i ≡ Some m → keys ≡ map method_key (take i ms)
    → added ≡ not (list_any (is_key m.entity m.name) keys) → added ≡ false → ¬ (Differ (map method_key ms))
met_before ms i m keys added g same_keys a b d =
    let e : list_any (is_key m.entity m.name) (map method_key (take i ms)) ≡ true =
    ap (list_any (is_key m.entity m.name)) (sym same_keys) ∙ negated (list_any (is_key m.entity m.name) keys) (sym a ∙ b) in
    let k = any_there (is_key m.entity m.name) (map method_key (take i ms)) e in
    let other = map_get method_key (take i ms) k.0 k.1 k.2 in
    let before = get_take ms i k.0 other.0 other.1 in
    let own = key_is m.entity m.name other.0 (ap (is_key m.entity m.name) other.2 ∙ k.3) in
    let key : method_key other.0 ≡ method_key m = ap (λ (n : ℕ). (n, other.0.name)) own.0 ∙ ap (λ (n : ℕ). (m.entity, n)) own.1 in
    let same : k.0 ≡ i = d k.0 i (method_key m) (get_map method_key ms k.0 other.0 before.1 ∙ ap Some key) (get_map method_key ms i m g) in
    let l = before.0 in
    omega (arith, l, same)

-- An entity has only one method with a given name.
methods_are_one : (core : CoreData) (entity name i j : ℕ) → Formed core → IsMethod core entity name i → IsMethod core entity name j → i ≡ j
methods_are_one core entity name i j f h k =
    let a = method_among core i h.0 f h.1 (get_below core.methods i h.0 h.1) in
    let b = method_among core j k.0 f k.1 (get_below core.methods j k.0 k.1) in
    let x : EntityDef = a.0 in
    let there : slice_get core.entities entity ≡ Some x = ap (slice_get core.entities) (sym h.2) ∙ a.1 in
    let other : slice_get core.entities entity ≡ Some b.0 = ap (slice_get core.entities) (sym k.2) ∙ b.1 in
    let same : b.0 ≡ x = same_Some b.0 x (sym other ∙ there) in
    let low : x.first_method ≤ i = a.2 in
    let least : x.first_method ≤ j = subst (λ (z : EntityDef). z.first_method ≤ j) same b.2 in
    let most : j < x.first_method + x.methods = subst (λ (z : EntityDef). j < z.first_method + z.methods) same b.3 in
    let first = range_get core.methods x.first_method (x.first_method + x.methods) i h.0 low a.3 h.1 in
    let second = range_get core.methods x.first_method (x.first_method + x.methods) j k.0 least most k.1 in
    let fields : List ℕ = map field_name x.fields in
    let own : List ℕ = map method_name (own_methods core x) in
    let one : slice_get own (i - x.first_method) ≡ Some name = get_map method_name (own_methods core x) (i - x.first_method) h.0 first ∙ ap Some h.3 in
    let two : slice_get own (j - x.first_method) ≡ Some name = get_map method_name (own_methods core x) (j - x.first_method) k.0 second ∙ ap Some k.3 in
    let places : length fields + (i - x.first_method) ≡ length fields + (j - x.first_method) =
    (f.entities entity x there).names (length fields + (i - x.first_method)) (length fields + (j - x.first_method)) name
    (get_append fields own (i - x.first_method) ∙ one) (get_append fields own (j - x.first_method) ∙ two) in
    omega (arith, places, low, least)

-- ---- what is found among the keys

none_named : (core : CoreData) (entity name : ℕ) (o : Option ℕ) → Formed core → position (is_key entity name) (map method_key core.methods) ≡ None → method_named core entity name ≡ o → None ≡ o
none_named core entity name None f e g = refl
none_named core entity name (Some m) f e g =
    let h = method_found core entity name m f g in
    absurd (no_both (is_key entity name (method_key h.0)) (is_its_key entity name h.0 h.2 h.3)
    (position_missed (is_key entity name) (map method_key core.methods) e m (method_key h.0) (get_map method_key core.methods m h.0 h.1)))

there : (core : CoreData) (entity name i : ℕ) → position (is_key entity name) (map method_key core.methods) ≡ Some i → IsMethod core entity name i
there core entity name i e =
    let k = position_found (is_key entity name) (map method_key core.methods) i e in
    let m = map_get method_key core.methods i k.0 k.1 in
    let own = key_is entity name m.0 (ap (is_key entity name) m.2 ∙ k.2) in
    (m.0, m.1, own.0, own.1)

some_named : (core : CoreData) (entity name i : ℕ) (o : Option ℕ) → Formed core → IsMethod core entity name i → method_named core entity name ≡ o → Some i ≡ o
some_named core entity name i None f h g = absurd (method_missed core entity name f g i (get_below core.methods i h.0 h.1) h)
some_named core entity name i (Some m) f h g = ap Some (methods_are_one core entity name i m f h (method_found core entity name m f g))

found : (core : CoreData) (entity name : ℕ) (o : Option ℕ) → Formed core → position (is_key entity name) (map method_key core.methods) ≡ o → o ≡ method_named core entity name
found core entity name None f e = none_named core entity name (method_named core entity name) f e refl
found core entity name (Some i) f e = some_named core entity name i (method_named core entity name) f (there core entity name i e) refl

-- The place of a key in the keys of all methods is the number of the method.
pub named_by_key : (core : CoreData) (entity name : ℕ) (keys : List (ℕ × ℕ)) → Formed core → keys ≡ map method_key core.methods → position (is_key entity name) keys ≡ method_named core entity name
named_by_key core entity name keys f e = ap (position (is_key entity name)) e ∙ found core entity name (position (is_key entity name) (map method_key core.methods)) f refl
