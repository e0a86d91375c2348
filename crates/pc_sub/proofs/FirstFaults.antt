-- The first declaration that fails is the first of the faults that are computed.
use Rattle.std.specs.Prelude.{◌≡◌, ◌↔◌, ℕ, ◌+◌, Bool, true, false, cond, List, [], ◌∷◌, Option, Some, None, slice_get, refl}
use Rattle.std.proofs.{Common.{inl, inr, ap, sym, subst, ◌∙◌, arith}, lemmas.Option.{same_Some, none-some, cond_some}}
use Rattle.pc_caps.specs.Tables.{sendable}
use Rattle.pc_core.specs.{declared.declarations.EntityDef.EntityDef, declared.declarations.Method.Method, declared.declarations.ParamInfo.ParamInfo, CoreData.{CoreData, IsMethod, method_named, own_methods}, Entities.{Conforms, HasFor}, Formed.Formed, Members.method_found}
use Rattle.pc_base.proofs.Options.{bind_some}
use Rattle.pc_base.specs.Lists.{Each}
use Rattle.pc_sub.specs.{Declarations.{DeclOk, TakesSendable, takes_sendable}, DeclarationLaws.{NoFaultWhereFit, OneFirstFault, FirstIsComputed}, FirstFault.{FirstWithout, FirstLack, IsLike, IsFirstDeclarationFault}, Faults.{all_sent, conformed, conforms, has_like, held, kinds_equal, like_has, list_conformed, list_conforms, looked, named, named_like, none_iff_fits, one_method, sent_all, takes_all, unless, unlooked}, declared.faults.DeclFault.DeclFault}
use Rattle.pc_sub.specs.declared.faults.DeclFault.TheVariants as fault
use Rattle.pc_sub.specs.DeclarationFaults as conform
use Rattle.pc_sub.proofs.Firsts.{either, first_element, first_once, first_same}

-- ---- parameters

-- The fault that is there unless a test holds.
told : (b : Bool) (f d : DeclFault) → slice_get (cond b [] (f ∷ [])) 0 ≡ Some d → f ≡ d
told true f d e = absurd (none-some d e)
told false f d e = same_Some f d e

-- Faults that are looked for only if a test holds.
asked : (b : Bool) (fs : List DeclFault) (d : DeclFault) → slice_get (cond b fs []) 0 ≡ Some d → slice_get fs 0 ≡ Some d
asked true fs d e = e
asked false fs d e = absurd (none-some d e)

abbrev param_faults : (method index : ℕ) → ParamInfo → List DeclFault
param_faults m i p = cond (sendable p.cap) [] (fault.NotSendable m i ∷ [])

unsent : (m : ℕ) (ps : List ParamInfo) (d : DeclFault) → slice_get (conform.not_sendable m 0 ps) 0 ≡ Some d
    → (i : ℕ) × (p : ParamInfo) × FirstWithout (λ j q. sendable q.cap ≡ true) ps i p × (fault.NotSendable m i ≡ d)
unsent m ps d e =
    let r = first_element ParamInfo (param_faults m) (conform.not_sendable m) (λ i. refl) (λ i p qs. refl) 0 ps d (λ j q. sendable q.cap ≡ true)
    (λ i p. (λ c. unless (sendable p.cap) (fault.NotSendable m (0 + i)) c, λ h. held (sendable p.cap) (fault.NotSendable m (0 + i)) h)) e in
    let at : r.0 ≡ 0 + r.0 = omega arith in
    (r.0, r.1, r.2, ap (fault.NotSendable m) at ∙ told (sendable r.1.cap) (fault.NotSendable m (0 + r.0)) d r.3)

takes_iff : (m : ℕ) (x : Method) → (slice_get (conform.own_faults m x) 0 ≡ None) ↔ TakesSendable x
takes_iff m x = (
  λ c t. sent_all m 0 x.params (looked (takes_sendable x.kind x.result.1) (conform.not_sendable m 0 x.params) c t),
  λ h. unlooked (takes_sendable x.kind x.result.1) (conform.not_sendable m 0 x.params) (λ t. all_sent m 0 x.params (h t)),
)

first_unsent : (core : CoreData) (d : DeclFault) → slice_get (conform.parameter_faults 0 core.methods) 0 ≡ Some d → IsFirstDeclarationFault core d
first_unsent core d e =
    let r = first_element Method conform.own_faults conform.parameter_faults (λ m. refl) (λ m x ys. refl) 0 core.methods d (λ k y. TakesSendable y) (λ k y. takes_iff (0 + k) y) e in
    let at : 0 + r.0 ≡ r.0 = omega arith in
    let here : slice_get (conform.own_faults r.0 r.1) 0 ≡ Some d = subst (λ m. slice_get (conform.own_faults m r.1) 0 ≡ Some d) at r.3 in
    let s = unsent r.0 r.1.params d (asked (takes_sendable r.1.kind r.1.result.1) (conform.not_sendable r.0 0 r.1.params) d here) in
    subst (IsFirstDeclarationFault core) s.3 (r.1, s.1, r.2, s.2)

-- ---- a method that an entity has nothing for

like_named : (core : CoreData) (e : ℕ) (t : Method) (z : ℕ × Method) → Formed core → conform.method_like core e t ≡ Some z → IsLike core e t z.0
like_named core e t z f g =
    let a = bind_some (method_named core e t.name) _ z g in
    let b = bind_some (slice_get core.methods a.0) _ z a.2 in
    let k = cond_some (conform.same_kind b.0.kind t.kind) (a.0, b.0) z b.2 in
    let same : a.0 ≡ z.0 = ap (λ (p : ℕ × Method). p.0) k.1 in
    let h : IsMethod core e t.name a.0 = method_found core e t.name a.0 f a.1 in
    let is : b.0 ≡ h.0 = same_Some b.0 h.0 (sym b.1 ∙ h.1) in
    subst (IsLike core e t) same (h.0, h.1, h.2, h.3, subst (λ (y : Method). y.kind ≡ t.kind) is (kinds_equal b.0.kind t.kind k.0))

like_found : (core : CoreData) (e m : ℕ) (t : Method) → Formed core → (h : IsLike core e t m) → conform.method_like core e t ≡ Some (m, h.0)
like_found core e m t f h = named_like core e m t h.0 (named core e t.name m (method_named core e t.name) f refl (h.0, h.1, h.2, h.3)) h.1 h.4

lacking : (core : CoreData) (e n : ℕ) (t : Method) (o : Option (ℕ × Method)) (d : DeclFault) → Formed core → conform.method_like core e t ≡ o
    → slice_get (conform.conformance_faults core e n t o) 0 ≡ Some d → FirstLack core e n t → IsFirstDeclarationFault core d
lacking core e n t None d f g h lack =
    subst (IsFirstDeclarationFault core) (same_Some (fault.MissingMethod e n) d h) (t, lack, λ m l. none-some (m, l.0) (sym g ∙ like_found core e m t f l))
lacking core e n t (Some z) d f g h lack =
    subst (IsFirstDeclarationFault core) (told (conform.stands_for core t z.1) (fault.Mismatch e z.0) d h) (n, t, lack, like_named core e t z f g)

-- ---- from the lists to the method

-- The trait or interface in which a method is declared.
trait_of : (core : CoreData) (e b : ℕ) (o : Option EntityDef) (d : DeclFault) → slice_get core.entities b ≡ o → slice_get (conform.conform_faults core e o) 0 ≡ Some d
    → (y : EntityDef) × (slice_get core.entities b ≡ Some y) × (slice_get (conform.trait_faults core e y.first_method (own_methods core y)) 0 ≡ Some d)
trait_of core e b None d g h = absurd (none-some d h)
trait_of core e b (Some y) d g h = (y, g, h)

module _ (core : CoreData) (formed : Formed core) (d : DeclFault) where
  has_iff : (e n : ℕ) (t : Method) → (slice_get (conform.conformance_faults core e n t (conform.method_like core e t)) 0 ≡ None) ↔ HasFor core e t
  has_iff e n t = (like_has core e n t (conform.method_like core e t) formed refl, has_like core e n t formed)

  conforms_iff : (e b : ℕ) → (slice_get (conform.conform_faults core e (slice_get core.entities b)) 0 ≡ None) ↔ Conforms core e b
  conforms_iff e b = (conforms core e b (slice_get core.entities b) formed refl, conformed core e b (slice_get core.entities b) formed refl)

  all_iff : (e : ℕ) (x : EntityDef) → (slice_get (conform.list_faults core (0 + e) x.provides) 0 ≡ None) ↔ Each (λ i b. Conforms core e b) x.provides
  all_iff e x =
      let at : 0 + e ≡ e = omega arith in
      subst (λ k. (slice_get (conform.list_faults core (0 + e) x.provides) 0 ≡ None) ↔ Each (λ i b. Conforms core k b) x.provides) at
      (list_conforms core (0 + e) x.provides formed, list_conformed core (0 + e) x.provides formed)

  first_lack : Each (λ m x. TakesSendable x) core.methods → slice_get (conform.core_entity_faults core 0 core.entities) 0 ≡ Some d → IsFirstDeclarationFault core d
  first_lack right g =
      let r = first_element EntityDef (λ e x. conform.list_faults core e x.provides) (conform.core_entity_faults core) (λ e. refl) (λ e x xs. refl)
      0 core.entities d (λ e x. Each (λ i b. Conforms core e b) x.provides) all_iff g in
      let e = r.0 in
      let at : 0 + e ≡ e = omega arith in
      let s = first_element ℕ (λ n b. conform.conform_faults core e (slice_get core.entities b)) (λ n. conform.list_faults core e) (λ n. refl) (λ n b bs. refl)
      0 r.1.provides d (λ i b. Conforms core e b) (λ i b. conforms_iff e b) (subst (λ k. slice_get (conform.list_faults core k r.1.provides) 0 ≡ Some d) at r.3) in
      let y = trait_of core e s.1 (slice_get core.entities s.1) d refl s.3 in
      let u = first_element Method (λ n t. conform.conformance_faults core e n t (conform.method_like core e t)) (conform.trait_faults core e) (λ n. refl) (λ n t ts. refl)
      y.0.first_method (own_methods core y.0) d (λ i t. HasFor core e t) (λ i t. has_iff e (y.0.first_method + i) t) y.2 in
      lacking core e (y.0.first_method + u.0) u.1 (conform.method_like core e u.1) d formed refl u.3 (record {
        parameters = right;
        entity = r.1;
        is_entity = r.2;
        place = s.0;
        above = s.1;
        is_above = s.2;
        trait = y.0;
        is_trait = y.1;
        index = u.0;
        is_method = u.2;
        number = refl;
      })

  pub first_is : conform.first_fault core ≡ Some d → IsFirstDeclarationFault core d
  first_is e = elim (either (conform.parameter_faults 0 core.methods) (conform.core_entity_faults core 0 core.entities) d e) [
    | inl h ↦ first_unsent core d h
    | inr h ↦ first_lack (takes_all 0 core.methods h.0) h.1
  ]

-- ---- the declarations do not fit, and there is one first

lack_unfit : (core : CoreData) (e n : ℕ) (t : Method) → FirstLack core e n t → DeclOk core → ⊥
lack_unfit core e n t lack ok = lack.is_entity.1 (ok.conform e lack.entity lack.is_entity.0)

unfit : (core : CoreData) (f : DeclFault) → IsFirstDeclarationFault core f → DeclOk core → ⊥
unfit core (fault.NotSendable m i) h ok = h.2.1 (ok.sendable m h.0 h.2.0)
unfit core (fault.MissingMethod e n) h ok = lack_unfit core e n h.0 h.1 ok
unfit core (fault.Mismatch e m) h ok = lack_unfit core e h.0 h.1 h.2 ok

-- If a declaration fails, the declarations do not fit.
pub faulted : (core : CoreData) (f : DeclFault) → Formed core → IsFirstDeclarationFault core f → DeclOk core → ⊥
faulted core f formed h ok = unfit core f h ok

-- Where two lack something first.
one_entity : (core : CoreData) (e c n k : ℕ) (t s : Method) → FirstLack core e n t → FirstLack core c k s → e ≡ c
one_entity core e c n k t s a b = first_once (λ d x. Each (λ i b. Conforms core d b) x.provides) core.entities e c a.entity b.entity a.is_entity b.is_entity

module _ (core : CoreData) (e n k : ℕ) (t s : Method) (a : FirstLack core e n t) (b : FirstLack core e k s) where
  one_list : a.entity ≡ b.entity
  one_list = same_Some a.entity b.entity (sym a.is_entity.0 ∙ b.is_entity.0)

  is_above : FirstWithout (λ i c. Conforms core e c) a.entity.provides b.place b.above
  is_above = subst (λ (x : EntityDef). FirstWithout (λ i c. Conforms core e c) x.provides b.place b.above) (sym one_list) b.is_above

  one_trait : a.trait ≡ b.trait
  one_trait =
      let same : a.above ≡ b.above = first_same (λ i c. Conforms core e c) a.entity.provides a.place b.place a.above b.above a.is_above is_above in
      same_Some a.trait b.trait (sym a.is_trait ∙ ap (slice_get core.entities) same ∙ b.is_trait)

  is_method : FirstWithout (λ i x. HasFor core e x) (own_methods core a.trait) b.index s
  is_method = subst (λ (y : EntityDef). FirstWithout (λ i x. HasFor core e x) (own_methods core y) b.index s) (sym one_trait) b.is_method

  one_declared : t ≡ s
  one_declared = first_same (λ i x. HasFor core e x) (own_methods core a.trait) a.index b.index t s a.is_method is_method

  one_number : n ≡ k
  one_number =
      let same : a.index ≡ b.index = first_once (λ i x. HasFor core e x) (own_methods core a.trait) a.index b.index t s a.is_method is_method in
      let first : a.trait.first_method ≡ b.trait.first_method = ap (λ (y : EntityDef). y.first_method) one_trait in
      let p = a.number in
      let q = b.number in
      omega (arith, same, first, p, q)

sent_before : (core : CoreData) (m i e n : ℕ) (t : Method) → IsFirstDeclarationFault core (fault.NotSendable m i) → FirstLack core e n t → ⊥
sent_before core m i e n t h a = h.2.1 (a.parameters m h.0 h.2.0)

one_unsent : (core : CoreData) (m i k j : ℕ) → IsFirstDeclarationFault core (fault.NotSendable m i) → IsFirstDeclarationFault core (fault.NotSendable k j) → fault.NotSendable m i ≡ fault.NotSendable k j
one_unsent core m i k j h g =
    let method : m ≡ k = first_once (λ k y. TakesSendable y) core.methods m k h.0 g.0 h.2 g.2 in
    let same : h.0 ≡ g.0 = first_same (λ k y. TakesSendable y) core.methods m k h.0 g.0 h.2 g.2 in
    let is : FirstWithout (λ j q. sendable q.cap ≡ true) h.0.params j g.1 = subst (λ (x : Method). FirstWithout (λ j q. sendable q.cap ≡ true) x.params j g.1) (sym same) g.3 in
    let index : i ≡ j = first_once (λ j q. sendable q.cap ≡ true) h.0.params i j h.1 g.1 h.3 is in
    ap (λ a. fault.NotSendable a i) method ∙ ap (fault.NotSendable k) index

-- What is missing in one is not a mismatch in the other.
no_like : (core : CoreData) (e c n k m : ℕ) (t s : Method) → FirstLack core e n t → FirstLack core c k s → ((j : ℕ) → IsLike core e t j → ⊥) → IsLike core c s m → ⊥
no_like core e c n k m t s a b none h =
    let entity : e ≡ c = one_entity core e c n k t s a b in
    let there : FirstLack core e k s = subst (λ d. FirstLack core d k s) (sym entity) b in
    let declared : t ≡ s = one_declared core e n k t s a there in
    none m (subst (λ d. IsLike core d t m) (sym entity) (subst (λ (x : Method). IsLike core c x m) (sym declared) h))

one_missing : (core : CoreData) (e c n k : ℕ) (t s : Method) → FirstLack core e n t → FirstLack core c k s → fault.MissingMethod e n ≡ fault.MissingMethod c k
one_missing core e c n k t s a b =
    let entity : e ≡ c = one_entity core e c n k t s a b in
    let there : FirstLack core e k s = subst (λ d. FirstLack core d k s) (sym entity) b in
    ap (fault.MissingMethod e) (one_number core e n k t s a there) ∙ ap (λ d. fault.MissingMethod d k) entity

one_mismatch : (core : CoreData) (e c n k m l : ℕ) (t s : Method) → Formed core → FirstLack core e n t → FirstLack core c k s → IsLike core e t m → IsLike core c s l → fault.Mismatch e m ≡ fault.Mismatch c l
one_mismatch core e c n k m l t s f a b h g =
    let entity : e ≡ c = one_entity core e c n k t s a b in
    let there : FirstLack core e k s = subst (λ d. FirstLack core d k s) (sym entity) b in
    let declared : t ≡ s = one_declared core e n k t s a there in
    let is : IsLike core e t l = subst (λ d. IsLike core d t l) (sym entity) (subst (λ (x : Method). IsLike core c x l) (sym declared) g) in
    let method : m ≡ l = one_method core e t.name m l f (h.0, h.1, h.2, h.3) (is.0, is.1, is.2, is.3) in
    ap (fault.Mismatch e) method ∙ ap (λ d. fault.Mismatch d l) entity

pub one_fault : OneFirstFault
one_fault core (fault.NotSendable m i) (fault.NotSendable k j) f h g = one_unsent core m i k j h g
one_fault core (fault.NotSendable m i) (fault.MissingMethod e n) f h g = absurd (sent_before core m i e n g.0 h g.1)
one_fault core (fault.NotSendable m i) (fault.Mismatch e k) f h g = absurd (sent_before core m i e g.0 g.1 h g.2)
one_fault core (fault.MissingMethod e n) (fault.NotSendable m i) f h g = absurd (sent_before core m i e n h.0 g h.1)
one_fault core (fault.MissingMethod e n) (fault.MissingMethod c k) f h g = one_missing core e c n k h.0 g.0 h.1 g.1
one_fault core (fault.MissingMethod e n) (fault.Mismatch c m) f h g = absurd (no_like core e c n g.0 m h.0 g.1 h.1 g.2 h.2 g.3)
one_fault core (fault.Mismatch e m) (fault.NotSendable k i) f h g = absurd (sent_before core k i e h.0 h.1 g h.2)
one_fault core (fault.Mismatch e m) (fault.MissingMethod c k) f h g = absurd (no_like core c e k h.0 m g.0 h.1 g.1 h.2 g.2 h.3)
one_fault core (fault.Mismatch e m) (fault.Mismatch c l) f h g = one_mismatch core e c h.0 g.0 m l h.1 g.1 f h.2 g.2 h.3 g.3

-- ---- what is computed

is_computed : (core : CoreData) (f : DeclFault) (o : Option DeclFault) → Formed core → conform.first_fault core ≡ o → IsFirstDeclarationFault core f → o ≡ Some f
is_computed core f None formed e h = absurd (unfit core f h ((none_iff_fits core formed).0 e))
is_computed core f (Some g) formed e h = ap Some (one_fault core g f formed (first_is core formed g e) h)

pub computed : FirstIsComputed
computed core f formed = (first_is core formed f, is_computed core f (conform.first_fault core) formed refl)

fits_by : (core : CoreData) (o : Option DeclFault) → Formed core → conform.first_fault core ≡ o → ((f : DeclFault) → IsFirstDeclarationFault core f → ⊥) → DeclOk core
fits_by core None formed e h = (none_iff_fits core formed).0 e
fits_by core (Some f) formed e h = absurd (h f (first_is core formed f e))

pub fits_without_fault : NoFaultWhereFit
fits_without_fault core formed = (λ ok f h. unfit core f h ok, fits_by core (conform.first_fault core) formed refl)
