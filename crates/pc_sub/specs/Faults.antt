-- There is no fault iff the declarations fit.
use Rattle.std.proofs.{Common.{ap, sym, subst, ◌∙◌, arith}, lemmas.Bool.{and_parts, and_from}, lemmas.List.length-map, lemmas.Option.{same_Some, none-some, cond_some}}
use Rattle.pc_base.proofs.{Gets.{get_below, get_append, get_map, range_get}, Options.bind_some}
use Rattle.std.specs.Prelude.{◌≡◌, ◌↔◌, ℕ, zero, suc, ◌+◌, ◌-◌, ◌<◌, ◌≤◌, Bool, true, false, cond, List, [], ◌∷◌, ◌++◌, map, length, Option, Some, None, slice_get, refl}
use Rattle.pc_caps.specs.{Closure.below_iff, Tables.{unalias, sendable}}
use Rattle.pc_core.specs.{declared.declarations.EntityDef.EntityDef, declared.declarations.Method.Method, declared.declarations.MethodKind.MethodKind, declared.declarations.ParamInfo.ParamInfo, CoreData.{CoreData, own_methods, method_named, IsMethod}, Parts.{field_name, method_name}, Formed.Formed, Members.{method_among, method_found, method_missed}, Entities.{ParamFits, StandsFor, HasFor, Conforms}}
use Rattle.pc_base.specs.Lists.{Each, ◌>>=◌}
use Rattle.pc_sub.specs.{declared.faults.DeclFault.DeclFault, Above.is_chain_iff}
use Rattle.pc_core.specs.declared.declarations.MethodKind.TheVariants as method
use Rattle.pc_sub.specs.declared.faults.DeclFault.TheVariants as fault
use Rattle.pc_sub.specs.DeclarationFaults as conform
use Rattle.pc_sub.specs.Declarations as spec

-- ---- lists of faults

-- There are no faults.
abbrev Clean : List DeclFault → Type 0
Clean xs = slice_get xs 0 ≡ None

-- The first of two lists, one after the other.
pub passed : (xs ys : List DeclFault) → slice_get xs 0 ≡ None → slice_get (xs ++ ys) 0 ≡ slice_get ys 0
passed [] ys e = refl
passed (x ∷ xs) ys e = absurd (none-some x (sym e))

pub stopped : (xs ys : List DeclFault) (x : DeclFault) → slice_get xs 0 ≡ Some x → slice_get (xs ++ ys) 0 ≡ Some x
stopped [] ys x e = absurd (none-some x e)
stopped (y ∷ xs) ys x e = e

both : (xs ys : List DeclFault) → Clean (xs ++ ys) → Clean xs × Clean ys
both [] ys e = (refl, e)
both (x ∷ xs) ys e = absurd (none-some x (sym e))

together : (xs ys : List DeclFault) → Clean xs → Clean ys → Clean (xs ++ ys)
together xs ys e f = passed xs ys e ∙ f

-- A fault that is there unless a test holds.
pub unless : (b : Bool) (f : DeclFault) → Clean (cond b [] (f ∷ [])) → b ≡ true
unless true f e = refl
unless false f e = absurd (none-some f (sym e))

pub held : (b : Bool) (f : DeclFault) → b ≡ true → Clean (cond b [] (f ∷ []))
held b f h = subst (λ c. Clean (cond c [] (f ∷ []))) (sym h) refl

-- Faults that are looked for only if a test holds.
pub looked : (b : Bool) (xs : List DeclFault) → Clean (cond b xs []) → b ≡ true → Clean xs
looked true xs e h = e
looked false xs e h = absurd (let bad : false ≡ true = h in cc)

pub unlooked : (b : Bool) (xs : List DeclFault) → (b ≡ true → Clean xs) → Clean (cond b xs [])
unlooked true xs e = e refl
unlooked false xs e = refl

-- ---- what must be sendable

pub sent_all : (m i : ℕ) (ps : List ParamInfo) → Clean (conform.not_sendable m i ps) → Each (λ j p. sendable p.cap ≡ true) ps
sent_all m i [] e j p g = absurd (none-some p g)
sent_all m i (q ∷ ps) e zero p g = subst (λ (r : ParamInfo). sendable r.cap ≡ true) (same_Some q p g) (unless (sendable q.cap) _ (both _ _ e).0)
sent_all m i (q ∷ ps) e (suc j) p g = sent_all m (i + 1) ps (both _ _ e).1 j p g

pub all_sent : (m i : ℕ) (ps : List ParamInfo) → Each (λ j p. sendable p.cap ≡ true) ps → Clean (conform.not_sendable m i ps)
all_sent m i [] h = refl
all_sent m i (q ∷ ps) h = together _ _ (held (sendable q.cap) _ (h 0 q refl)) (all_sent m (i + 1) ps (λ j p g. h (suc j) p g))

pub takes_all : (m : ℕ) (xs : List Method) → Clean (conform.parameter_faults m xs) → Each (λ k x. spec.TakesSendable x) xs
takes_all m [] e k x g = absurd (none-some x g)
takes_all m (y ∷ ys) e zero x g = subst spec.TakesSendable (same_Some y x g) (λ h. sent_all m 0 y.params (looked (spec.takes_sendable y.kind y.result.1) _ (both _ _ e).0 h))
takes_all m (y ∷ ys) e (suc k) x g = takes_all (m + 1) ys (both _ _ e).1 k x g

all_take : (m : ℕ) (xs : List Method) → Each (λ k x. spec.TakesSendable x) xs → Clean (conform.parameter_faults m xs)
all_take m [] h = refl
all_take m (y ∷ ys) h =
    together _ _ (unlooked (spec.takes_sendable y.kind y.result.1) (conform.not_sendable m 0 y.params) (λ t. all_sent m 0 y.params (h 0 y refl t)))
    (all_take (m + 1) ys (λ k x g. h (suc k) x g))

-- ---- a method that replaces another

fits_param : (core : CoreData) (p q : ParamInfo) → Formed core → conform.param_fits core p q ≡ true → ParamFits core p q
fits_param core p q f e = let k = and_parts _ _ e in ((is_chain_iff core p.entity q.entity f).0 k.0, (below_iff (unalias p.cap) (unalias q.cap)).0 k.1)

param_fit : (core : CoreData) (p q : ParamInfo) → Formed core → ParamFits core p q → conform.param_fits core p q ≡ true
param_fit core p q f h = and_from _ _ ((is_chain_iff core p.entity q.entity f).1 h.0) ((below_iff (unalias p.cap) (unalias q.cap)).1 h.1)

-- Each parameter of the declared method fits the one at the same index.
abbrev ParamsFit : CoreData → List ParamInfo → List ParamInfo → Type 0
ParamsFit core ps qs = Each (λ i p. (q : ParamInfo) → slice_get qs i ≡ Some q → ParamFits core p q) ps

fit_count : (core : CoreData) (ps qs : List ParamInfo) → conform.params_fit core ps qs ≡ true → length qs ≡ length ps
fit_count core [] [] e = refl
fit_count core (p ∷ ps) (q ∷ qs) e = ap suc (fit_count core ps qs (and_parts _ _ e).1)
fit_count core [] (q ∷ qs) e = cc e
fit_count core (p ∷ ps) [] e = cc e

fit_each : (core : CoreData) (ps qs : List ParamInfo) → Formed core → conform.params_fit core ps qs ≡ true → ParamsFit core ps qs
fit_each core [] qs f e i p g = absurd (none-some p g)
fit_each core (r ∷ ps) [] f e i p g = cc e
fit_each core (r ∷ ps) (s ∷ qs) f e zero p g = λ q h.
    let k = fits_param core r s f (and_parts _ _ e).0 in
    subst (λ (z : ParamInfo). ParamFits core p z) (same_Some s q h) (subst (λ (z : ParamInfo). ParamFits core z s) (same_Some r p g) k)
fit_each core (r ∷ ps) (s ∷ qs) f e (suc i) p g = fit_each core ps qs f (and_parts _ _ e).1 i p g

each_fit : (core : CoreData) (ps qs : List ParamInfo) → Formed core → length qs ≡ length ps → ParamsFit core ps qs → conform.params_fit core ps qs ≡ true
each_fit core [] [] f l h = refl
each_fit core [] (q ∷ qs) f l h = absurd (omega (arith, l))
each_fit core (p ∷ ps) [] f l h = absurd (omega (arith, l))
each_fit core (p ∷ ps) (q ∷ qs) f l h =
    let m : length qs ≡ length ps = omega (arith, l) in
    and_from _ _ (param_fit core p q f (h 0 p refl q refl)) (each_fit core ps qs f m (λ i r g. h (suc i) r g))

pub stands : (core : CoreData) (t y : Method) → Formed core → conform.stands_for core t y ≡ true → StandsFor core t y
stands core t y f e =
    let k = and_parts _ _ e in
    let a = and_parts _ _ k.0 in
    let b = and_parts _ _ k.1 in
    record {
      count = fit_count core t.params y.params a.1;
      receiver = (below_iff (unalias t.receiver) (unalias y.receiver)).0 a.0;
      params = fit_each core t.params y.params f a.1;
      entity = (is_chain_iff core y.result.0 t.result.0 f).0 b.0;
      form = (below_iff y.result.1 t.result.1).0 b.1;
    }

pub stood : (core : CoreData) (t y : Method) → Formed core → StandsFor core t y → conform.stands_for core t y ≡ true
stood core t y f s =
    and_from _ _
    (and_from _ _ ((below_iff (unalias t.receiver) (unalias y.receiver)).1 s.receiver) (each_fit core t.params y.params f s.count s.params))
    (and_from _ _ ((is_chain_iff core y.result.0 t.result.0 f).1 s.entity) ((below_iff y.result.1 t.result.1).1 s.form))

-- ---- the entity's method of a name and kind

pub kinds_equal : (j k : MethodKind) → conform.same_kind j k ≡ true → j ≡ k
kinds_equal method.Fun method.Fun e = refl
kinds_equal method.Be method.Be e = refl
kinds_equal method.New method.New e = refl
kinds_equal method.Spawn method.Spawn e = refl
kinds_equal j k e = absurd (let bad : false ≡ true = e in cc)

same_kinds : (j : MethodKind) → conform.same_kind j j ≡ true
same_kinds method.Fun = refl
same_kinds method.Be = refl
same_kinds method.New = refl
same_kinds method.Spawn = refl

-- An entity has one method with a given name.
method_place : (core : CoreData) (e name m : ℕ) (x : EntityDef) → Formed core → slice_get core.entities e ≡ Some x → IsMethod core e name m → (x.first_method ≤ m) × (slice_get (map field_name x.fields ++ map method_name (own_methods core x)) (length x.fields + (m - x.first_method)) ≡ Some name)
method_place core e name m x f g h =
    let y = h.0 in
    let r = method_among core m y f h.1 (get_below core.methods m y h.1) in
    let same : r.0 ≡ x = same_Some r.0 x (sym r.1 ∙ ap (slice_get core.entities) h.2 ∙ g) in
    let low : x.first_method ≤ m = subst (λ (z : EntityDef). z.first_method ≤ m) same r.2 in
    let high : m < x.first_method + x.methods = subst (λ (z : EntityDef). m < z.first_method + z.methods) same r.3 in
    let own = range_get core.methods x.first_method (x.first_method + x.methods) m y low high h.1 in
    let count : length (map field_name x.fields) ≡ length x.fields = length-map x.fields field_name in
    let named : slice_get (map method_name (own_methods core x)) (m - x.first_method) ≡ Some name = get_map method_name (own_methods core x) (m - x.first_method) y own ∙ ap Some h.3 in (
      low,
      subst (λ n. slice_get (map field_name x.fields ++ map method_name (own_methods core x)) (n + (m - x.first_method)) ≡ Some name) count
          (get_append (map field_name x.fields) (map method_name (own_methods core x)) (m - x.first_method) ∙ named),
    )

pub one_method : (core : CoreData) (e name m k : ℕ) → Formed core → IsMethod core e name m → IsMethod core e name k → m ≡ k
one_method core e name m k f h i =
    let r = method_among core m h.0 f h.1 (get_below core.methods m h.0 h.1) in
    let g : slice_get core.entities e ≡ Some r.0 = ap (slice_get core.entities) (sym h.2) ∙ r.1 in
    let a = method_place core e name m r.0 f g h in
    let b = method_place core e name k r.0 f g i in
    let same = (f.entities e r.0 g).names _ _ name a.1 b.1 in
    let low = a.0 in
    let lower = b.0 in
    omega (arith, same, low, lower)

pub like_has : (core : CoreData) (e n : ℕ) (t : Method) (o : Option (ℕ × Method)) → Formed core → conform.method_like core e t ≡ o → Clean (conform.conformance_faults core e n t o) → HasFor core e t
like_has core e n t None f g c = absurd (none-some (fault.MissingMethod e n) (sym c))
like_has core e n t (Some z) f g c =
    let a = bind_some (method_named core e t.name) _ z g in
    let b = bind_some (slice_get core.methods a.0) _ z a.2 in
    let k = cond_some (conform.same_kind b.0.kind t.kind) (a.0, b.0) z b.2 in
    let y : b.0 ≡ z.1 = ap (λ (p : ℕ × Method). p.1) k.1 in
    let s = stands core t z.1 f (unless (conform.stands_for core t z.1) _ c) in
    (a.0, b.0, method_found core e t.name a.0 f a.1, b.1, kinds_equal b.0.kind t.kind k.0, subst (λ (w : Method). StandsFor core t w) (sym y) s)

-- What is found by a name.
pub named_like : (core : CoreData) (e m : ℕ) (t y : Method) → method_named core e t.name ≡ Some m → slice_get core.methods m ≡ Some y → y.kind ≡ t.kind → conform.method_like core e t ≡ Some (m, y)
named_like core e m t y g h k =
    let same : conform.same_kind y.kind t.kind ≡ true = ap (conform.same_kind y.kind) (sym k) ∙ same_kinds y.kind in
    ap (λ (o : Option ℕ). o >>= λ i. slice_get core.methods i >>= λ z. cond (conform.same_kind z.kind t.kind) (Some (i, z)) None) g
    ∙ ap (λ (o : Option Method). o >>= λ z. cond (conform.same_kind z.kind t.kind) (Some (m, z)) None) h
    ∙ ap (λ b. cond b (Some (m, y)) None) same

pub named : (core : CoreData) (e name m : ℕ) (o : Option ℕ) → Formed core → method_named core e name ≡ o → IsMethod core e name m → o ≡ Some m
named core e name m None f g h = absurd (method_missed core e name f g m (get_below core.methods m h.0 h.1) h)
named core e name m (Some k) f g h = ap Some (one_method core e name k m f (method_found core e name k f g) h)

pub has_like : (core : CoreData) (e n : ℕ) (t : Method) → Formed core → HasFor core e t → Clean (conform.conformance_faults core e n t (conform.method_like core e t))
has_like core e n t f h =
    let g : method_named core e t.name ≡ Some h.0 = named core e t.name h.0 (method_named core e t.name) f refl h.2 in
    subst (λ o. Clean (conform.conformance_faults core e n t o)) (sym (named_like core e h.0 t h.1 g h.3 h.4))
    (held (conform.stands_for core t h.1) _ (stood core t h.1 f h.5))

-- ---- traits and interfaces

trait_has : (core : CoreData) (e n : ℕ) (ts : List Method) → Formed core → Clean (conform.trait_faults core e n ts) → Each (λ i t. HasFor core e t) ts
trait_has core e n [] f c i t g = absurd (none-some t g)
trait_has core e n (s ∷ ts) f c zero t g = subst (HasFor core e) (same_Some s t g) (like_has core e n s (conform.method_like core e s) f refl (both _ _ c).0)
trait_has core e n (s ∷ ts) f c (suc i) t g = trait_has core e (n + 1) ts f (both _ _ c).1 i t g

has_trait : (core : CoreData) (e n : ℕ) (ts : List Method) → Formed core → Each (λ i t. HasFor core e t) ts → Clean (conform.trait_faults core e n ts)
has_trait core e n [] f h = refl
has_trait core e n (s ∷ ts) f h = together _ _ (has_like core e n s f (h 0 s refl)) (has_trait core e (n + 1) ts f (λ i t g. h (suc i) t g))

pub conforms : (core : CoreData) (e b : ℕ) (o : Option EntityDef) → Formed core → slice_get core.entities b ≡ o → Clean (conform.conform_faults core e o) → Conforms core e b
conforms core e b None f g c x h = absurd (none-some x (sym g ∙ h))
conforms core e b (Some y) f g c x h = subst (λ (z : EntityDef). Each (λ i t. HasFor core e t) (own_methods core z)) (same_Some y x (sym g ∙ h)) (trait_has core e y.first_method (own_methods core y) f c)

pub conformed : (core : CoreData) (e b : ℕ) (o : Option EntityDef) → Formed core → slice_get core.entities b ≡ o → Conforms core e b → Clean (conform.conform_faults core e o)
conformed core e b None f g h = refl
conformed core e b (Some y) f g h = has_trait core e y.first_method (own_methods core y) f (h y g)

pub list_conforms : (core : CoreData) (e : ℕ) (bs : List ℕ) → Formed core → Clean (conform.list_faults core e bs) → Each (λ i b. Conforms core e b) bs
list_conforms core e [] f c i b g = absurd (none-some b g)
list_conforms core e (a ∷ bs) f c zero b g = subst (Conforms core e) (same_Some a b g) (conforms core e a (slice_get core.entities a) f refl (both _ _ c).0)
list_conforms core e (a ∷ bs) f c (suc i) b g = list_conforms core e bs f (both _ _ c).1 i b g

pub list_conformed : (core : CoreData) (e : ℕ) (bs : List ℕ) → Formed core → Each (λ i b. Conforms core e b) bs → Clean (conform.list_faults core e bs)
list_conformed core e [] f h = refl
list_conformed core e (a ∷ bs) f h = together _ _ (conformed core e a (slice_get core.entities a) f refl (h 0 a refl)) (list_conformed core e bs f (λ i b g. h (suc i) b g))

-- Entities, from number n on.
all_conform : (core : CoreData) (n : ℕ) (xs : List EntityDef) → Formed core → Clean (conform.core_entity_faults core n xs) → Each (λ e x. Each (λ i b. Conforms core (n + e) b) x.provides) xs
all_conform core n [] f c e x g = absurd (none-some x g)
all_conform core n (y ∷ ys) f c zero x g =
    let at : n ≡ n + 0 = omega arith in
    subst (λ (z : EntityDef). Each (λ i b. Conforms core (n + 0) b) z.provides) (same_Some y x g)
    (subst (λ k. Each (λ i b. Conforms core k b) y.provides) at (list_conforms core n y.provides f (both _ _ c).0))
all_conform core n (y ∷ ys) f c (suc e) x g =
    let at : n + 1 + e ≡ n + suc e = omega arith in
    subst (λ k. Each (λ i b. Conforms core k b) x.provides) at (all_conform core (n + 1) ys f (both _ _ c).1 e x g)

conform_all : (core : CoreData) (n : ℕ) (xs : List EntityDef) → Formed core → Each (λ e x. Each (λ i b. Conforms core (n + e) b) x.provides) xs → Clean (conform.core_entity_faults core n xs)
conform_all core n [] f h = refl
conform_all core n (y ∷ ys) f h =
    let at : n + 0 ≡ n = omega arith in
    together _ _ (list_conformed core n y.provides f (subst (λ k. Each (λ i b. Conforms core k b) y.provides) at (h 0 y refl)))
    (conform_all core (n + 1) ys f (λ e x g. let next : n + suc e ≡ n + 1 + e = omega arith in subst (λ k. Each (λ i b. Conforms core k b) x.provides) next (h (suc e) x g)))

-- ---- all declarations

pub none_iff_fits : (core : CoreData) → Formed core → (conform.first_fault core ≡ None) ↔ spec.DeclOk core
none_iff_fits core f = (
  λ c. let k = both (conform.parameter_faults 0 core.methods) (conform.core_entity_faults core 0 core.entities) c in
      record { sendable = takes_all 0 core.methods k.0; conform = λ e x g. let at : 0 + e ≡ e = omega arith in subst (λ n. Each (λ i b. Conforms core n b) x.provides) at (all_conform core 0 core.entities f k.1 e x g) },
  λ d. together (conform.parameter_faults 0 core.methods) (conform.core_entity_faults core 0 core.entities) (all_take 0 core.methods d.sendable) (conform_all core 0 core.entities f (λ e x g. let at : e ≡ 0 + e = omega arith in subst (λ n. Each (λ i b. Conforms core n b) x.provides) at (d.conform e x g))),
)
