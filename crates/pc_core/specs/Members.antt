-- What follows, in a core that fits together, for the fields and methods of its entities.
use Rattle.std.proofs.{Common.{ap, sym, subst, ◌∙◌, arith}, lemmas.List.{length-drop, length-take-le}}
use Rattle.pc_base.proofs.{Gets.{get_below, get_map, map_get, get_range, range_get}, Lookup.{place_found, place_missed}, Ranges.{run_within, run_around}, Options.bind_some}
use Rattle.std.specs.Prelude.{◌≡◌, ℕ, ◌+◌, ◌-◌, ◌<◌, ◌≤◌, ◌^◌, length, drop, MatchOption, Option, Some, None, slice_get}
use Rattle.pc_core.specs.{declared.declarations.EntityDef.EntityDef, declared.declarations.Method.Method, CoreData.{CoreData, own_methods, field_named, method_named, IsMethod}, Parts.{field_name, method_name, IsField}, Formed.Formed}
use Rattle.pc_base.specs.Lists.{◌>>=◌, place_of}

-- An entity's methods are within the list.
pub methods_within : (core : CoreData) (e : ℕ) (x : EntityDef) → Formed core → slice_get core.entities e ≡ Some x → x.first_method + x.methods ≤ length core.methods
methods_within core e x f g = (run_within 0 _ (length core.methods) e (x.first_method, x.methods) f.methods_follow (get_map (λ y. (y.first_method, y.methods)) core.entities e x g)).1

pub own_methods_within : (core : CoreData) (e : ℕ) (x : EntityDef) → Formed core → slice_get core.entities e ≡ Some x → x.first_method + length (own_methods core x) < 2 ^ 32
own_methods_within core e x f g =
    let k = methods_within core e x f g in
    let few = f.few_methods in
    let total : length (drop x.first_method core.methods) ≡ length core.methods - x.first_method = length-drop x.first_method core.methods in
    let room : (x.first_method + x.methods) - x.first_method ≤ length (drop x.first_method core.methods) = omega (arith, k, total) in
    let count = length-take-le ((x.first_method + x.methods) - x.first_method) (drop x.first_method core.methods) room in
    omega (arith, k, few, count)

-- A method is among those of its entity.
pub method_among : (core : CoreData) (m : ℕ) (y : Method) → Formed core → slice_get core.methods m ≡ Some y → m < length core.methods → (x : EntityDef) × (slice_get core.entities y.entity ≡ Some x) × (x.first_method ≤ m) × (m < x.first_method + x.methods)
method_among core m y f g l =
    let r = run_around 0 _ (length core.methods) m f.methods_follow (omega arith) l in
    let a = map_get (λ (x : EntityDef). (x.first_method, x.methods)) core.entities r.0 r.1 r.2 in
    let x = a.0 in
    let low : x.first_method ≤ m = subst (λ (q : ℕ × ℕ). q.0 ≤ m) (sym a.2) r.3 in
    let high : m < x.first_method + x.methods = subst (λ (q : ℕ × ℕ). m < q.0 + q.1) (sym a.2) r.4 in
    let owner : y.entity ≡ r.0 = (f.entities r.0 x a.1).methods (m - x.first_method) y (range_get core.methods x.first_method (x.first_method + x.methods) m y low high g) in
    (x, ap (slice_get core.entities) owner ∙ a.1, low, high)

pub field_found : (core : CoreData) (entity name i : ℕ) → field_named core entity name ≡ Some i → IsField core entity name i
field_found core entity name i e =
    let a = bind_some (slice_get core.entities entity) _ i e in
    let r = place_found field_name name a.0.fields 0 i a.2 in
    let s = r.2 in
    let same : r.0 ≡ i = omega (arith, s) in
    (a.0, r.1, a.1, subst (λ n. slice_get a.0.fields n ≡ Some r.1) same r.3, r.4)

pub field_missed : (core : CoreData) (entity name : ℕ) → field_named core entity name ≡ None → (i : ℕ) → IsField core entity name i → ⊥
field_missed core entity name e i h = place_missed field_name name h.0.fields 0 (subst (λ o. (o >>= λ x. place_of field_name name x.fields 0) ≡ None) h.2 e) i h.1 h.3 h.4

pub method_found : (core : CoreData) (entity name m : ℕ) → Formed core → method_named core entity name ≡ Some m → IsMethod core entity name m
method_found core entity name m f e =
    let a = bind_some (slice_get core.entities entity) _ m e in
    let x = a.0 in
    let r = place_found method_name name (own_methods core x) x.first_method m a.2 in
    let k = get_range core.methods x.first_method (x.first_method + x.methods) r.0 r.1 r.3 in
    (r.1, subst (λ n. slice_get core.methods n ≡ Some r.1) (sym r.2) k.1, (f.entities entity x a.1).methods r.0 r.1 r.3, r.4)

pub method_missed : (core : CoreData) (entity name : ℕ) → Formed core → method_named core entity name ≡ None → (m : ℕ) → m < length core.methods → IsMethod core entity name m → ⊥
method_missed core entity name f e m l h =
    let y = h.0 in
    let r = method_among core m y f h.1 l in
    let x = r.0 in
    let there : slice_get core.entities entity ≡ Some x = ap (slice_get core.entities) (sym h.2) ∙ r.1 in
    let own = range_get core.methods x.first_method (x.first_method + x.methods) m y r.2 r.3 h.1 in
    place_missed method_name name (own_methods core x) x.first_method (subst (λ o. (o >>= λ z. place_of method_name name (own_methods core z) z.first_method) ≡ None) there e) (m - x.first_method) y own h.3

-- What is found is exact.
pub field_exact : (core : CoreData) (entity name : ℕ) (o : Option ℕ) → o ≡ field_named core entity name → MatchOption o ((i : ℕ) → ¬ (IsField core entity name i)) (λ i. IsField core entity name i)
field_exact core entity name None e = field_missed core entity name (sym e)
field_exact core entity name (Some i) e = field_found core entity name i (sym e)

pub method_exact : (core : CoreData) (entity name : ℕ) (o : Option ℕ) → Formed core → o ≡ method_named core entity name → MatchOption o ((m : ℕ) → ¬ (IsMethod core entity name m)) (λ m. IsMethod core entity name m)
method_exact core entity name None f e = λ m h. method_missed core entity name f (sym e) m (get_below core.methods m h.0 h.1) h
method_exact core entity name (Some m) f e = method_found core entity name m f (sym e)
