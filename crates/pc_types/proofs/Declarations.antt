-- The order of entities, what an entity is under, and what it has for the methods of those entities.
use Rattle.std.specs.Prelude.{◌≡◌, ℕ, ◌+◌, ◌-◌, ◌<◌, ◌≤◌, ◌++◌, true, false, length, map, Option, Some, None, slice_get, refl}
use Rattle.std.proofs.{Common.{inl, inr, ap, sym, subst, ◌∙◌, arith}, lemmas.Option.same_Some}
use Rattle.pc_caps.specs.{Tables.{IsBelow, same, step}, declared.capability.Form.Form}
use Rattle.pc_base.proofs.{Gets.{get_below, get_within, get_append, get_map, get_range, range_get}, Bools.false_true, Options.bind_some, Lookup.place_found}
use Rattle.pc_tree.specs.{declared.kinds.EntityKind.EntityKind, Kinds.is_abstract}
use Rattle.pc_tree.specs.declared.kinds.EntityKind.TheVariants as kind
use Rattle.pc_core.specs.{declared.declarations.EntityDef.EntityDef, declared.declarations.Method.Method, declared.declarations.ParamInfo.ParamInfo, CoreData.{CoreData, own_methods, method_named, IsMethod}, Parts.{field_name, method_name}, Further.IsAbstract, Entities.{Provides, Leads, one, more, Chain, ParamFits, StandsFor, HasFor, Conforms}, Members.{method_among, method_found, method_missed}, Formed.Formed}
use Rattle.pc_base.specs.Lists.{Has, place_of}
use Rattle.pc_sub.specs.Declarations.{Sub, IsInterface, is_structural, DeclOk}
use Rattle.pc_types.proofs.{Under.Under, Needs.Declared}

-- ---- chains

lead_on : (core : CoreData) (a b c : ℕ) → Leads core a b → Leads core b c → Leads core a c
lead_on core a b c (one n) l = more n l
lead_on core a b c (more {b = d} n r) l = more n (lead_on core d b c r l)

chain_on : (core : CoreData) (a b c : ℕ) → Chain core a b → Chain core b c → Chain core a c
chain_on core a b c (inl e) q = subst (λ (n : ℕ). Chain core n c) (sym e) q
chain_on core a b c (inr l) (inl e) = inr (subst (Leads core a) e l)
chain_on core a b c (inr l) (inr r) = inr (lead_on core a b c l r)

-- A chain leads to a trait or an interface.
named_trait : (core : CoreData) (a b : ℕ) → Formed core → Provides core a b → IsAbstract core b
named_trait core a b formed n = (formed.entities a n.0 n.1).provides n.2.0 b n.2.1

ends_in_trait : (core : CoreData) (a b : ℕ) → Formed core → Leads core a b → IsAbstract core b
ends_in_trait core a b formed (one n) = named_trait core a b formed n
ends_in_trait core a b formed (more {b = d} n r) = ends_in_trait core d b formed r

structural_abstract : (k : EntityKind) → is_structural k ≡ true → is_abstract k ≡ true
structural_abstract kind.Class e = absurd (false_true e)
structural_abstract kind.Actor e = absurd (false_true e)
structural_abstract kind.Primitive e = absurd (false_true e)
structural_abstract kind.Trait e = refl
structural_abstract kind.Interface e = refl

interface_abstract : (core : CoreData) (b : ℕ) → IsInterface core b → IsAbstract core b
interface_abstract core b i = (i.0, i.1, structural_abstract i.0.kind i.2)

-- ---- a method that stands for another

pub below_trans : (a b c : Form) → IsBelow a b → IsBelow b c → IsBelow a c
below_trans a b c same q = q
below_trans a b c (step {b = d} s r) q = step s (below_trans d b c r q)

fits_itself : (core : CoreData) (p : ParamInfo) → ParamFits core p p
fits_itself core p = (inl refl, same)

stands_itself : (core : CoreData) (f : Method) → StandsFor core f f
stands_itself core f = record {
  count = refl;
  receiver = same;
  params = λ i p g q h. subst (ParamFits core p) (same_Some p q (sym g ∙ h)) (fits_itself core p);
  entity = inl refl;
  form = same;
}

fits_on : (core : CoreData) (p q r : ParamInfo) → ParamFits core p q → ParamFits core q r → ParamFits core p r
fits_on core p q r a b = (chain_on core p.entity q.entity r.entity a.0 b.0, below_trans _ _ _ a.1 b.1)

stands_on : (core : CoreData) (t y z : Method) → StandsFor core t y → StandsFor core y z → StandsFor core t z
stands_on core t y z a b = record {
  count = b.count ∙ a.count;
  receiver = below_trans _ _ _ a.receiver b.receiver;
  params = λ i p g r h.
      let q = get_within y.params i (subst (λ (n : ℕ). i < n) (sym a.count) (get_below t.params i p g)) in
      fits_on core p q.0 r (a.params i p g q.0 q.1) (b.params i q.0 q.1 r h);
  entity = chain_on core z.result.0 y.result.0 t.result.0 b.entity a.entity;
  form = below_trans _ _ _ b.form a.form;
}

-- ---- methods by their names

-- The place of a method's name among the names of its entity.
record NamePlace (core : CoreData) (d name m : ℕ) (x : EntityDef) : Type 0 where
  low : x.first_method ≤ m
  at : slice_get (map field_name x.fields ++ map method_name (own_methods core x)) (length (map field_name x.fields) + (m - x.first_method)) ≡ Some name

name_place : (core : CoreData) (d name m : ℕ) (x : EntityDef) → Formed core → slice_get core.entities d ≡ Some x → IsMethod core d name m → NamePlace core d name m x
name_place core d name m x formed at is =
    let y = is.0 in
    let among = method_among core m y formed is.1 (get_below core.methods m y is.1) in
    let owner : among.0 ≡ x = same_Some among.0 x (sym among.1 ∙ ap (slice_get core.entities) is.2 ∙ at) in
    let low : x.first_method ≤ m = subst (λ (z : EntityDef). z.first_method ≤ m) owner among.2 in
    let high : m < x.first_method + x.methods = subst (λ (z : EntityDef). m < z.first_method + z.methods) owner among.3 in
    let own = range_get core.methods x.first_method (x.first_method + x.methods) m y low high is.1 in
    record {
      low = low;
      at = get_append (map field_name x.fields) (map method_name (own_methods core x)) (m - x.first_method) ∙ get_map method_name (own_methods core x) (m - x.first_method) y own ∙ ap Some is.3;
    }

same_number : (a l m n : ℕ) → a ≤ m → a ≤ n → l + (m - a) ≡ l + (n - a) → m ≡ n
same_number a l m n p q e = omega (arith, p, q, e)

one_method : (core : CoreData) (d name m n : ℕ) (x : EntityDef) → Formed core → slice_get core.entities d ≡ Some x → IsMethod core d name m → IsMethod core d name n → m ≡ n
one_method core d name m n x formed at p q =
    let a = name_place core d name m x formed at p in
    let b = name_place core d name n x formed at q in
    same_number x.first_method (length (map field_name x.fields)) m n a.low b.low ((formed.entities d x at).names _ _ name a.at b.at)

-- The entity's method of the name is the one that is found.
pub found_is : (core : CoreData) (d name m : ℕ) (x : EntityDef) → Formed core → slice_get core.entities d ≡ Some x → IsMethod core d name m → (o : Option ℕ) → method_named core d name ≡ o → o ≡ Some m
found_is core d name m x formed at is None e = absurd (method_missed core d name formed e m (get_below core.methods m is.0 is.1) is)
found_is core d name m x formed at is (Some n) e = ap Some (one_method core d name n m x formed at (method_found core d name n formed e) is)

-- A method that is found is among its entity's methods.
among_own : (core : CoreData) (e name k : ℕ) (f : Method) → method_named core e name ≡ Some k → slice_get core.methods k ≡ Some f → (x : EntityDef) × (slice_get core.entities e ≡ Some x) × Has (own_methods core x) f × (f.name ≡ name)
among_own core e name k f found at =
    let a = bind_some (slice_get core.entities e) (λ (z : EntityDef). place_of method_name name (own_methods core z) z.first_method) k found in
    let x = a.0 in
    let p = place_found method_name name (own_methods core x) x.first_method k a.2 in
    let g = (get_range core.methods x.first_method (x.first_method + x.methods) p.0 p.1 p.3).1 in
    let is : p.1 ≡ f = same_Some p.1 f (sym g ∙ ap (slice_get core.methods) (sym p.2) ∙ at) in
    (x, a.1, (p.0, p.3 ∙ ap Some is), ap method_name (sym is) ∙ p.4)

-- A method with the name is among its entity's methods.
own_method : (core : CoreData) (d name m : ℕ) → Formed core → (is : IsMethod core d name m) → (x : EntityDef) × (slice_get core.entities d ≡ Some x) × Has (own_methods core x) is.0
own_method core d name m formed is =
    let y = is.0 in
    let among = method_among core m y formed is.1 (get_below core.methods m y is.1) in
    let x = among.0 in
    (x, ap (slice_get core.entities) (sym is.2) ∙ among.1, (m - x.first_method, range_get core.methods x.first_method (x.first_method + x.methods) m y among.2 among.3 is.1))

-- ---- what an entity has

module _ (core : CoreData) (formed : Formed core) where
  -- For a method of its own, itself.
  own_declared : (e name k : ℕ) (f : Method) → method_named core e name ≡ Some k → slice_get core.methods k ≡ Some f → Declared core e name f
  own_declared e name k f found at =
      let is = method_found core e name k formed found in
      let own : is.0 ≡ f = same_Some is.0 f (sym is.1 ∙ at) in
      record { number = k; found = found; own = f; is_own = at; entity = ap (λ (g : Method). g.entity) (sym own) ∙ is.2; kind = refl; stands = stands_itself core f }

  -- For one of a trait or an interface to which it conforms.
  conforming_declared : (d e name k : ℕ) (f : Method) → Conforms core d e → method_named core e name ≡ Some k → slice_get core.methods k ≡ Some f → Declared core d name f
  conforming_declared d e name k f c found at =
      let a = among_own core e name k f found at in
      let y = c a.0 a.1 a.2.0 f a.2.1 in
      let is : IsMethod core d name y.0 = subst (λ (w : ℕ). IsMethod core d w y.0) a.3 y.2 in
      let owner = own_method core d name y.0 formed is in
      let own : y.2.0 ≡ y.1 = same_Some y.2.0 y.1 (sym y.2.1 ∙ y.3) in
      record {
        number = y.0;
        found = found_is core d name y.0 owner.0 formed owner.1 is (method_named core d name) refl;
        own = y.1;
        is_own = y.3;
        entity = ap (λ (g : Method). g.entity) (sym own) ∙ y.2.2;
        kind = y.4;
        stands = y.5;
      }

  -- For one of an entity that it is under.
  pub all_declared : (d e name k : ℕ) (f : Method) → Under core d e → method_named core e name ≡ Some k → slice_get core.methods k ≡ Some f → Declared core d name f
  all_declared d e name k f (inl s) found at = subst (λ (c : ℕ). Declared core c name f) (sym s) (own_declared e name k f found at)
  all_declared d e name k f (inr c) found at = conforming_declared d e name k f c.1 found at

  -- ---- what an entity is under

  -- What an entity has for a method of a second one, and that one for a method of a third, it has for the third's.
  has_on : (a b : ℕ) (t : Method) → Conforms core a b → HasFor core b t → HasFor core a t
  has_on a b t c y =
      let own : y.2.0 ≡ y.1 = same_Some y.2.0 y.1 (sym y.2.1 ∙ y.3) in
      let owner = own_method core b t.name y.0 formed y.2 in
      let there : slice_get (own_methods core owner.0) owner.2.0 ≡ Some y.1 = owner.2.1 ∙ ap Some own in
      let z = c owner.0 owner.1 owner.2.0 y.1 there in
      let name : y.1.name ≡ t.name = ap method_name (sym own) ∙ y.2.3 in
      (z.0, z.1, subst (λ (w : ℕ). IsMethod core a w z.0) name z.2, z.3, z.4 ∙ y.4, stands_on core t y.1 z.1 y.5 z.5)

  conforms_on : (a b c : ℕ) → Conforms core a b → Conforms core b c → Conforms core a c
  conforms_on a b c p q x at i t g = has_on a b t p (q x at i t g)

  pub under_trans : (a b c : ℕ) → Under core a b → Under core b c → Under core a c
  under_trans a b c p (inl e) = subst (Under core a) e p
  under_trans a b c (inl e) (inr q) = subst (λ (n : ℕ). Under core n c) (sym e) (inr q)
  under_trans a b c (inr p) (inr q) = inr (q.0, conforms_on a b c p.1 q.1)

  module _ (fit : DeclOk core) where
    led_conforms : (a b : ℕ) → Leads core a b → Conforms core a b
    led_conforms a b (one n) = fit.conform a n.0 n.1 n.2.0 b n.2.1
    led_conforms a b (more {b = d} n r) = conforms_on a d b (fit.conform a n.0 n.1 n.2.0 d n.2.1) (led_conforms d b r)

    -- What is below an entity is under it.
    pub sub_under : (a b : ℕ) → Sub core a b → Under core a b
    sub_under a b (inl (inl e)) = inl e
    sub_under a b (inl (inr l)) = inr (ends_in_trait core a b formed l, led_conforms a b l)
    sub_under a b (inr s) = inr (interface_abstract core b s.0, s.1)

-- Only a trait or an interface has other entities under it.
pub under_no_trait : (core : CoreData) (d e : ℕ) (x : EntityDef) → Under core d e → slice_get core.entities e ≡ Some x → is_abstract x.kind ≡ false → d ≡ e
under_no_trait core d e x (inl p) at n = p
under_no_trait core d e x (inr c) at n =
    let t = c.0 in
    let bad : false ≡ true = sym n ∙ ap (λ (z : EntityDef). is_abstract z.kind) (same_Some x t.0 (sym at ∙ t.1)) ∙ t.2 in absurd (cc)
