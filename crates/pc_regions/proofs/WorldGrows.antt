-- A world with one more object: everything that stood stands as it did, and each value that fitted a place still fits
-- there. What has no object fits nowhere, except at a form that requires nothing of its region.
use Rattle.std.specs.{Prelude.{◌≡◌, ℕ, ◌<◌, Option, Some, None, refl}, FinMap.get}
use Rattle.std.proofs.{Common.{inl, inr, ap, sym, subst, ◌∙◌}, lemmas.Bool.cases_lt}
use Rattle.pc_heap.specs.{Objects.{ObjectMap, Object}, declared.value.Address.Address, declared.value.Value.Value, declared.value.Value.TheVariants.{Num, Truth, Text, Prim, At}}
use Rattle.pc_caps.specs.declared.capability.Form.{Form}
use Rattle.pc_caps.specs.declared.capability.Form.TheVariants as form
use Rattle.pc_regions.proofs.{World.{Place, InSlot, OnStack, InField, InMail, Standing, Unused, Froze, Opened, Loose, Held, Child, World, home, Frozen, ice, in_ice, under_ice, Seen, same, under, frozen, Over, over_loose, over_slot, over_own, over_field, over_part, over_child, FitsIn, Fits, AliasIn, Alias, WorldOk}, ContextComes.over_used}

-- ---- what is in use

pub opened_used : (i : ℕ) → Opened i ≡ Unused → ⊥
opened_used i e = cc

-- A place of one of this many actors, of a message, or of a field of an object.
abbrev pub Known : ObjectMap → ℕ → Place → Type 0
Known objects count (InSlot j h s l) = j < count
Known objects count (OnStack j h d l) = j < count
Known objects count (InField a k) = (o : Object) × (get objects a ≡ Some o)
Known objects count (InMail j t k) = Unit {0}

module _ (w : World) where
  frozen_used : {q : ℕ} → Frozen w q → w.stands q ≡ Unused → ⊥
  frozen_used (ice e) u = cc
  frozen_used (in_ice a k e f) u = cc
  frozen_used (under_ice v at e f) u = cc

  seen_used : {c q : ℕ} → (w.stands c ≡ Unused → ⊥) → Seen w c q → w.stands q ≡ Unused → ⊥
  seen_used used (same e) u = used (sym (ap w.stands e) ∙ u)
  seen_used used (under v at e k) u = cc
  seen_used used (frozen f) u = frozen_used f u

module _ (w : World) (objects : ObjectMap) (count : ℕ) (ok : WorldOk w objects count) where
  zero_used : w.stands 0 ≡ Unused → ⊥
  zero_used u = let x = ok.roles 0 0 0 ok.zero in opened_used 0 (sym (ok.root 0 x.0) ∙ ap w.stands x.2 ∙ u)

  home_used : (p : Place) → Known objects count p → w.stands (home w p) ≡ Unused → ⊥
  home_used (InSlot j h s l) there u = ok.homes j l there u
  home_used (OnStack j h d l) there u = ok.homes j l there u
  home_used (InField a k) there u = ok.present a there.0 there.1 u
  home_used (InMail j t k) there u = zero_used u

  -- What is in use is below `next`.
  pub used_below : (q : ℕ) → (w.stands q ≡ Unused → ⊥) → q < w.next
  used_below q used = elim (cases_lt q w.next) [ inl low ↦ low | inr up ↦ absurd (used (ok.unused q up).0) ]

-- ---- everything that stood still stands

-- For this many actors and these objects, from one world to another.
pub record Grows (w w' : World) (objects : ObjectMap) (count : ℕ) : Type 0 where
  pub fits : (p : Place) (f : Form) (v : Value) → Known objects count p → Fits w p f v → Fits w' p f v
  pub context : (j l : ℕ) → j < count → w'.context j l ≡ w.context j l
  pub top : (j : ℕ) → j < count → w'.top j ≡ w.top j
  pub sent : (j : ℕ) → j < count → w'.sent j ≡ w.sent j
  pub opened : (q j : ℕ) → w.stands q ≡ Opened j → w'.stands q ≡ Opened j
  pub over : (j : ℕ) {q l : ℕ} → Over w j q l → Over w' j q l
  pub alias : (j c k : ℕ) (f : Form) (v : Value) → j < count → Alias w j c k f v → Alias w' j c k f v

module _
    (w w' : World) (objects : ObjectMap) (count : ℕ) (ok : WorldOk w objects count)
    -- objects are still in their regions, what is in use stands as it did, and no region has become a child
    (region : (a : Address) (o : Object) → get objects a ≡ Some o → w'.region a ≡ w.region a) (kept : (x : ℕ) (s : Standing) → w.stands x ≡ s → (s ≡ Unused → ⊥) → w'.stands x ≡ s)
    (back : (x u : ℕ) (at : Option Place) → w'.stands x ≡ Child u at → w.stands x ≡ Child u at)
    -- roles are what they were, and of what is in use no region has got one
    (roles : (x j l : ℕ) → w.role x ≡ Some (j, l) → w'.role x ≡ Some (j, l)) (nones : (x : ℕ) → (w.stands x ≡ Unused → ⊥) → w.role x ≡ None → w'.role x ≡ None)
    (contexts : (j l : ℕ) → j < count → w'.context j l ≡ w.context j l)
  where
    frozen_on : {q : ℕ} → Frozen w q → Frozen w' q
    frozen_on {q} (ice e) = ice (kept q Froze e (λ f. cc))
    frozen_on {q} (in_ice a k e f) = let o = ok.holders q a k e in in_ice a k (kept q (Held (InField a k)) e (λ g. cc)) (subst (Frozen w') (sym (region a o.0 o.1)) (frozen_on f))
    frozen_on {q} (under_ice u at e f) = under_ice u at (kept q (Child u at) e (λ g. cc)) (frozen_on f)

    seen_on : {c q : ℕ} → Seen w c q → Seen w' c q
    seen_on (same e) = same e
    seen_on {c} {q} (under u at e k) = under u at (kept q (Child u at) e (λ g. cc)) (seen_on k)
    seen_on (frozen f) = frozen (frozen_on f)

    over_on : (j : ℕ) {q l : ℕ} → Over w j q l → Over w' j q l
    over_on j {q} {l} (over_loose e) = over_loose (kept q (Loose j l) e (λ g. cc))
    over_on j {q} {l} (over_slot h s e) = over_slot h s (kept q (Held (InSlot j h s l)) e (λ g. cc))
    over_on j {q} {l} (over_own a k e r) =
        let o = ok.holders q a k e in
        over_own a k (kept q (Held (InField a k)) e (λ g. cc)) (ap w'.role (region a o.0 o.1) ∙ roles (w.region a) j l r)
    over_on j {q} {l} (over_field a k e r on) =
        let o = ok.holders q a k e in
        let is = region a o.0 o.1 in
        over_field a k (kept q (Held (InField a k)) e (λ g. cc)) (ap w'.role is ∙ nones (w.region a) (over_used w j (w.region a) l on) r) (subst (λ (x : ℕ). Over w' j x l) (sym is) (over_on j on))
    over_on j {q} {l} (over_part u at e s r) = over_part u at (kept q (Child u at) e (λ g. cc)) s (roles u j l r)
    over_on j {q} {l} (over_child u at e s r on) = over_child u at (kept q (Child u at) e (λ g. cc)) s (nones u (over_used w j u l on) r) (over_on j on)

    -- ---- values at places

    homes : (p : Place) → Known objects count p → home w' p ≡ home w p
    homes (InSlot j h s l) there = contexts j l there
    homes (OnStack j h d l) there = contexts j l there
    homes (InField a k) there = region a there.0 there.1
    homes (InMail j t k) there = refl

    fits_in : (p : Place) (f : Form) (q : ℕ) → Known objects count p → FitsIn w p f q → FitsIn w' p f q
    fits_in p form.IsoE q there e = kept q (Held p) e (λ g. cc)
    fits_in p form.TrnE q there e = kept q (Child (home w p) (Some p)) e (λ g. cc) ∙ ap (λ (c : ℕ). Child c (Some p)) (sym (homes p there))
    fits_in p form.Iso q there e = tt
    fits_in p form.Trn q there e = subst (λ (c : ℕ). Seen w' c q) (sym (homes p there)) (seen_on e)
    fits_in p form.Ref q there e = e ∙ sym (homes p there)
    fits_in p form.Val q there e = frozen_on e
    fits_in p form.Box q there e = subst (λ (c : ℕ). Seen w' c q) (sym (homes p there)) (seen_on e)
    fits_in p form.Tag q there e = tt

    -- A value whose region is not in use fits nowhere if its region is required.
    absent_in : (p : Place) (f : Form) (q x : ℕ) → Known objects count p → w.stands q ≡ Unused → FitsIn w p f q → FitsIn w' p f x
    absent_in p form.IsoE q x there u e = cc
    absent_in p form.TrnE q x there u e = cc
    absent_in p form.Iso q x there u e = tt
    absent_in p form.Trn q x there u e = absurd (seen_used w (home_used w objects count ok p there) e u)
    absent_in p form.Ref q x there u e = absurd (home_used w objects count ok p there (sym (ap w.stands e) ∙ u))
    absent_in p form.Val q x there u e = absurd (frozen_used w e u)
    absent_in p form.Box q x there u e = absurd (seen_used w (home_used w objects count ok p there) e u)
    absent_in p form.Tag q x there u e = tt

    at_fits : (p : Place) (f : Form) (a : Address) (o : Option Object) → get objects a ≡ o → Known objects count p → FitsIn w p f (w.region a) → FitsIn w' p f (w'.region a)
    at_fits p f a None is there e = absent_in p f (w.region a) (w'.region a) there (ok.absent a is) e
    at_fits p f a (Some o) is there e = subst (FitsIn w' p f) (sym (region a o is)) (fits_in p f (w.region a) there e)

    fits_on : (p : Place) (f : Form) (v : Value) → Known objects count p → Fits w p f v → Fits w' p f v
    fits_on p f (At a) there e = at_fits p f a (get objects a) refl there e
    fits_on p f (Num n) there e = tt
    fits_on p f (Truth b) there e = tt
    fits_on p f (Text t) there e = tt
    fits_on p f (Prim n) there e = tt

    -- ---- aliases

    child_used : (q u : ℕ) (at : Option Place) → w.stands q ≡ Child u at → w.stands q ≡ Unused → ⊥
    child_used q u at e g = cc

    alias_in : (j c k : ℕ) (f : Form) (q : ℕ) → j < count → AliasIn w j c k f q → AliasIn w' j c k f q
    alias_in j c k form.Iso q there a = (nones q (over_used w j q a.2 a.5) a.0, λ u at e. a.1 u at (back q u at e), a.2, a.3, a.4, over_on j a.5)
    alias_in j c k form.Trn q there a =
        (nones q (child_used q (w.context j k) a.1 a.2) a.0, a.1, kept q (Child (w.context j k) a.1) a.2 (λ g. cc) ∙ ap (λ (z : ℕ). Child z a.1) (sym (contexts j k there)), a.3)
    alias_in j c k form.IsoE q there a = tt
    alias_in j c k form.TrnE q there a = tt
    alias_in j c k form.Ref q there a = tt
    alias_in j c k form.Val q there a = tt
    alias_in j c k form.Box q there a = tt
    alias_in j c k form.Tag q there a = tt

    absent_alias : (j c k : ℕ) (f : Form) (q x : ℕ) → w.stands q ≡ Unused → AliasIn w j c k f q → AliasIn w' j c k f x
    absent_alias j c k form.Iso q x u a = absurd (over_used w j q a.2 a.5 u)
    absent_alias j c k form.Trn q x u a = absurd (child_used q (w.context j k) a.1 a.2 u)
    absent_alias j c k form.IsoE q x u a = tt
    absent_alias j c k form.TrnE q x u a = tt
    absent_alias j c k form.Ref q x u a = tt
    absent_alias j c k form.Val q x u a = tt
    absent_alias j c k form.Box q x u a = tt
    absent_alias j c k form.Tag q x u a = tt

    at_alias : (j c k : ℕ) (f : Form) (a : Address) (o : Option Object) → get objects a ≡ o → j < count → AliasIn w j c k f (w.region a) → AliasIn w' j c k f (w'.region a)
    at_alias j c k f a None is there e = absent_alias j c k f (w.region a) (w'.region a) (ok.absent a is) e
    at_alias j c k f a (Some o) is there e = subst (AliasIn w' j c k f) (sym (region a o is)) (alias_in j c k f (w.region a) there e)

    alias_on : (j c k : ℕ) (f : Form) (v : Value) → j < count → Alias w j c k f v → Alias w' j c k f v
    alias_on j c k f (At a) there e = at_alias j c k f a (get objects a) refl there e
    alias_on j c k f (Num n) there e = tt
    alias_on j c k f (Truth b) there e = tt
    alias_on j c k f (Text t) there e = tt
    alias_on j c k f (Prim n) there e = tt

    pub grows : ((j : ℕ) → j < count → w'.top j ≡ w.top j) → ((j : ℕ) → j < count → w'.sent j ≡ w.sent j) → Grows w w' objects count
    grows top sent = record {
      fits = fits_on;
      context = contexts;
      top = top;
      sent = sent;
      opened = λ q j e. kept q (Opened j) e (opened_used j);
      over = over_on;
      alias = alias_on;
    }
