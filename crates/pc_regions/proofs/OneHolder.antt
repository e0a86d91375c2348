-- If a configuration has regions, no two actors race, and waiting messages are let alone.
use Rattle.std.specs.Prelude.{◌≡◌, ◌≢◌, ◌⊎◌, ℕ, zero, suc, ◌<◌, ◌≤◌, true, false, Some}
use Rattle.std.proofs.{Common.{inl, inr, ap, sym, subst, ◌∙◌, arith}, lemmas.Option.{same_Some, none-some}}
use Rattle.pc_heap.specs.{Objects.ObjectMap, declared.value.Address.Address, declared.value.Value.Value, declared.value.Value.TheVariants.{Num, Truth, Text, Prim, At}}
use Rattle.pc_caps.specs.{Tables.unalias, declared.capability.Cap.Cap}
use Rattle.pc_caps.specs.declared.capability.Form.TheVariants as form
use Rattle.pc_core.specs.{declared.declarations.ParamInfo.ParamInfo, CoreData.CoreData}
use Rattle.pc_semantics.specs.{declared.access.Access.Access, Configurations.{Configuration, address_of}, Safety.{access, Race, LetAlone}}
use Rattle.pc_base.proofs.Bools.{false_true}
use Rattle.pc_regions.proofs.World.{Fits, InMail, Held, World, Frozen, ice, in_ice, under_ice, Belongs, opened, loose, slot, stack, field, child, Seen, same, under, frozen, Over, over_loose, over_slot, over_own, over_field, over_part, over_child, WorldOk}

-- ---- chains end in one way

pub one_actor : (w : World) {i : ℕ} {q : ℕ} (j : ℕ) → Belongs w i q → Belongs w j q → i ≡ j
one_actor w j (opened e) (opened f) = cc
one_actor w j (opened e) (loose l f) = absurd (cc)
one_actor w j (opened e) (slot h s l f) = absurd (cc)
one_actor w j (opened e) (stack h d l f) = absurd (cc)
one_actor w j (opened e) (field a k f b) = absurd (cc)
one_actor w j (opened e) (child u at f b) = absurd (cc)
one_actor w j (loose l e) (opened f) = absurd (cc)
one_actor w j (loose l e) (loose m f) = cc
one_actor w j (loose l e) (slot h s m f) = absurd (cc)
one_actor w j (loose l e) (stack h d m f) = absurd (cc)
one_actor w j (loose l e) (field a k f b) = absurd (cc)
one_actor w j (loose l e) (child u at f b) = absurd (cc)
one_actor w j (slot h s l e) (opened f) = absurd (cc)
one_actor w j (slot h s l e) (loose m f) = absurd (cc)
one_actor w j (slot h s l e) (slot g t m f) = cc
one_actor w j (slot h s l e) (stack g d m f) = absurd (cc)
one_actor w j (slot h s l e) (field a k f b) = absurd (cc)
one_actor w j (slot h s l e) (child u at f b) = absurd (cc)
one_actor w j (stack h d l e) (opened f) = absurd (cc)
one_actor w j (stack h d l e) (loose m f) = absurd (cc)
one_actor w j (stack h d l e) (slot g t m f) = absurd (cc)
one_actor w j (stack h d l e) (stack g c m f) = cc
one_actor w j (stack h d l e) (field a k f b) = absurd (cc)
one_actor w j (stack h d l e) (child u at f b) = absurd (cc)
one_actor w j (field a k e b) (opened f) = absurd (cc)
one_actor w j (field a k e b) (loose m f) = absurd (cc)
one_actor w j (field a k e b) (slot g t m f) = absurd (cc)
one_actor w j (field a k e b) (stack g d m f) = absurd (cc)
one_actor w j (field a k e b) (field c l f d) = let is : a ≡ c = cc in one_actor w j b (subst (λ (x : Address). Belongs w j (w.region x)) (sym is) d)
one_actor w j (field a k e b) (child u at f d) = absurd (cc)
one_actor w j (child u at e b) (opened f) = absurd (cc)
one_actor w j (child u at e b) (loose m f) = absurd (cc)
one_actor w j (child u at e b) (slot g t m f) = absurd (cc)
one_actor w j (child u at e b) (stack g d m f) = absurd (cc)
one_actor w j (child u at e b) (field a k f d) = absurd (cc)
one_actor w j (child u at e b) (child v to f d) = let is : u ≡ v = cc in one_actor w j b (subst (Belongs w j) (sym is) d)

pub not_frozen : (w : World) {i : ℕ} {q : ℕ} → Belongs w i q → Frozen w q → ⊥
not_frozen w (opened e) (ice f) = cc
not_frozen w (opened e) (in_ice a k f r) = cc
not_frozen w (opened e) (under_ice u at f r) = cc
not_frozen w (loose l e) (ice f) = cc
not_frozen w (loose l e) (in_ice a k f r) = cc
not_frozen w (loose l e) (under_ice u at f r) = cc
not_frozen w (slot h s l e) (ice f) = cc
not_frozen w (slot h s l e) (in_ice a k f r) = cc
not_frozen w (slot h s l e) (under_ice u at f r) = cc
not_frozen w (stack h d l e) (ice f) = cc
not_frozen w (stack h d l e) (in_ice a k f r) = cc
not_frozen w (stack h d l e) (under_ice u at f r) = cc
not_frozen w (field a k e b) (ice f) = cc
not_frozen w (field a k e b) (in_ice c l f r) = let is : a ≡ c = cc in not_frozen w b (subst (λ (x : Address). Frozen w (w.region x)) (sym is) r)
not_frozen w (field a k e b) (under_ice u at f r) = cc
not_frozen w (child u at e b) (ice f) = cc
not_frozen w (child u at e b) (in_ice a k f r) = cc
not_frozen w (child u at e b) (under_ice v to f r) = let is : u ≡ v = cc in not_frozen w b (subst (Frozen w) (sym is) r)

-- What a message holds belongs to no actor, and is not frozen.
pub mail_is_none's : (w : World) (q i j t k : ℕ) → w.stands q ≡ Held (InMail j t k) → Belongs w i q → ⊥
mail_is_none's w q i j t k e (opened f) = cc
mail_is_none's w q i j t k e (loose l f) = cc
mail_is_none's w q i j t k e (slot h s l f) = cc
mail_is_none's w q i j t k e (stack h d l f) = cc
mail_is_none's w q i j t k e (field a n f b) = cc
mail_is_none's w q i j t k e (child u at f b) = cc

pub mail_is_warm : (w : World) (q j t k : ℕ) → w.stands q ≡ Held (InMail j t k) → Frozen w q → ⊥
mail_is_warm w q j t k e (ice f) = cc
mail_is_warm w q j t k e (in_ice a n f r) = cc
mail_is_warm w q j t k e (under_ice u at f r) = cc

-- ---- contexts belong to their actors

module _ (w : World) (objects : ObjectMap) (count : ℕ) (ok : WorldOk w objects count) (i : ℕ) (here : i < count) where
  -- If each lower context belongs to the actor, so does what a lower level is over.
  over_belongs : (n : ℕ) → ((l : ℕ) → l < n → l ≤ w.top i → Belongs w i (w.context i l)) → {q l : ℕ} → l < n → Over w i q l → Belongs w i q
  over_belongs n lower b (over_loose e) = loose _ e
  over_belongs n lower b (over_slot h s e) = slot h s _ e
  over_belongs n lower b (over_own a k e r) = let x = ok.roles (w.region a) i _ r in field a k e (subst (Belongs w i) x.2 (lower _ b x.1))
  over_belongs n lower b (over_field a k e r o) = field a k e (over_belongs n lower b o)
  over_belongs n lower b (over_part u at e s r) = let x = ok.roles u i _ r in child u at e (subst (Belongs w i) x.2 (lower _ b x.1))
  over_belongs n lower b (over_child u at e s r o) = child u at e (over_belongs n lower b o)

  under_bound : (n l m : ℕ) → l < m → m < suc n → l < n
  under_bound n l m a b = omega (arith, a, b)

  contexts_below : (n j : ℕ) → j < n → j ≤ w.top i → Belongs w i (w.context i j)
  contexts_below zero j b t = absurd (omega (arith, b))
  contexts_below (suc n) j b t =
      elim (ok.contexts i j here t) [
        | inl e ↦ opened e
        | inr o ↦ over_belongs n (λ l m u. contexts_below n l m u) (under_bound n o.0 j o.1 b) o.2
      ]

  pub context_belongs : (j : ℕ) → j ≤ w.top i → Belongs w i (w.context i j)
  context_belongs j t = contexts_below (suc j) j (omega arith) t

  -- What is over a region is of the actor.
  pub over_is_of : {q l : ℕ} → Over w i q l → Belongs w i q
  over_is_of {q} {l} o = over_belongs (suc l) (λ m b t. context_belongs m t) (omega arith) o

  -- What is seen from a region of the actor belongs to it, or is frozen.
  pub seen_belongs : {p q : ℕ} → Belongs w i p → Seen w p q → Belongs w i q ⊎ Frozen w q
  seen_belongs b (same e) = inl (subst (Belongs w i) (sym e) b)
  seen_belongs b (under u at e s) =
      elim (seen_belongs b s) [
        | inl o ↦ inl (child u at e o)
        | inr o ↦ inr (under_ice u at e o)
      ]
  seen_belongs b (frozen f) = inr f

-- ---- accesses

-- An object of the actor, or a frozen one that is only read.
abbrev pub AccessOk : World → ℕ → Access → Type 0
AccessOk w i x = Belongs w i (w.region x.address) ⊎ ((x.write ≡ false) × Frozen w (w.region x.address))

-- Two accesses of one object: they are of one actor, or neither writes.
pub no_clash : (w : World) (i j : ℕ) (x y : Access) → AccessOk w i x → AccessOk w j y → x.address ≡ y.address → i ≢ j → (x.write ≡ true) ⊎ (y.write ≡ true) → ⊥
no_clash w i j x y (inl b) (inl d) at differ writes = differ (one_actor w j b (subst (λ (a : Address). Belongs w j (w.region a)) (sym at) d))
no_clash w i j x y (inl b) (inr d) at differ writes = not_frozen w b (subst (λ (a : Address). Frozen w (w.region a)) (sym at) d.1)
no_clash w i j x y (inr b) (inl d) at differ writes = not_frozen w d (subst (λ (a : Address). Frozen w (w.region a)) at b.1)
no_clash w i j x y (inr b) (inr d) at differ (inl t) = false_true (sym b.0 ∙ t)
no_clash w i j x y (inr b) (inr d) at differ (inr t) = false_true (sym d.0 ∙ t)

-- The accesses of every actor are so.
abbrev pub AccessesOk : CoreData → World → Configuration → Type 0
AccessesOk core w c = (i : ℕ) (x : Access) → access core c i ≡ Some x → AccessOk w i x

pub no_race : (core : CoreData) (w : World) (c : Configuration) → AccessesOk core w c → Race core c → ⊥
no_race core w c ok r = no_clash w r.i r.j r.one r.other (ok r.i r.one r.accesses) (ok r.j r.other r.accesses_too) r.address r.differ r.writes

-- ---- waiting messages

pub address_is : (v : Value) (a : Address) → address_of v ≡ Some a → v ≡ At a
address_is (At b) a e = ap At (same_Some b a e)
address_is (Num n) a e = absurd (none-some a e)
address_is (Truth b) a e = absurd (none-some a e)
address_is (Text t) a e = absurd (none-some a e)
address_is (Prim p) a e = absurd (none-some a e)

module _ (core : CoreData) (w : World) (c : Configuration) (ok : AccessesOk core w c) where
  mail_untouched : (i j t k : ℕ) (x : Access) → w.stands (w.region x.address) ≡ Held (InMail j t k) → AccessOk w i x → ⊥
  mail_untouched i j t k x e (inl b) = mail_is_none's w (w.region x.address) i j t k e b
  mail_untouched i j t k x e (inr d) = mail_is_warm w (w.region x.address) j t k e d.1

  ice_unwritten : (i : ℕ) (x : Access) → Frozen w (w.region x.address) → x.write ≡ true → AccessOk w i x → ⊥
  ice_unwritten i x f t (inl b) = not_frozen w b f
  ice_unwritten i x f t (inr d) = false_true (sym d.0 ∙ t)

  -- What is in a message is let alone.
  pub let_alone : (p : ParamInfo) (v : Value) (j t k : ℕ) → Fits w (InMail j t k) (unalias p.cap) v → LetAlone core c p v
  let_alone p v j t k fit = record {
    iso = λ is a at i x e here.
        let held : w.stands (w.region a) ≡ Held (InMail j t k) = subst (λ (u : Value). Fits w (InMail j t k) form.IsoE u) (address_is v a at) (subst (λ (q : Cap). Fits w (InMail j t k) (unalias q) v) is fit) in
        mail_untouched i j t k x (subst (λ (b : Address). w.stands (w.region b) ≡ Held (InMail j t k)) (sym here) held) (ok i x e);
    val = λ is a at i x e writes here.
        let cold : Frozen w (w.region a) = subst (λ (u : Value). Fits w (InMail j t k) form.Val u) (address_is v a at) (subst (λ (q : Cap). Fits w (InMail j t k) (unalias q) v) is fit) in
        ice_unwritten i x (subst (λ (b : Address). Frozen w (w.region b)) (sym here) cold) writes (ok i x e);
  }
