-- One region stands otherwise: what an actor holds at a place that it leaves is held at another, is frozen, or is loose.
use Rattle.std.specs.{Prelude.{◌≡◌, ◌≢◌, ◌⊎◌, ℕ, ◌<◌, ◌≤◌, Bool, true, false, cond, Option, Some, None, refl}, FinMap.get}
use Rattle.std.proofs.{Common.{inl, inr, ap, sym, subst, ◌∙◌, arith}, lemmas.Bool.{eq-eqb, ne_eqb, cases_eq, cases_lt}, lemmas.Option.{same_Some, none-some}}
use Rattle.pc_heap.specs.{Objects.{ObjectMap, Object}, declared.value.Address.Address, declared.value.Value.Value, declared.value.Value.TheVariants.{Num, Truth, Text, Prim, At}}
use Rattle.pc_caps.specs.declared.capability.Form.{Form}
use Rattle.pc_caps.specs.declared.capability.Form.TheVariants as form
use Rattle.pc_base.proofs.Bools.{false_true}
use Rattle.pc_regions.proofs.{World.{Place, InSlot, OnStack, InField, InMail, Standing, Unused, Froze, Opened, Held, Child, World, home, Frozen, ice, in_ice, under_ice, Belongs, opened, loose, slot, stack, field, child, Seen, same, under, frozen, Over, over_loose, over_slot, over_own, over_field, over_part, over_child, FitsIn, Fits, AliasIn, Alias, WorldOk}, Changes.{stand, standing, Shifts}, OneHolder.{one_actor, context_belongs, over_is_of}}

pub stand_here : (f : ℕ → Standing) (q : ℕ) (s : Standing) → stand f q s q ≡ s
stand_here f q s = ap (λ (b : Bool). cond b s (f q)) (eq-eqb q q refl)

pub stand_other : (f : ℕ → Standing) (q : ℕ) (s : Standing) (x : ℕ) → (q ≡ x → ⊥) → stand f q s x ≡ f x
stand_other f q s x n = ap (λ (b : Bool). cond b s (f x)) (ne_eqb q x n)

pub home_standing : (w : World) (q : ℕ) (s : Standing) (p : Place) → home (standing w q s) p ≡ home w p
home_standing w q s (InSlot j h t l) = refl
home_standing w q s (OnStack j h d l) = refl
home_standing w q s (InField a k) = refl
home_standing w q s (InMail j t k) = refl

-- What belongs to an actor is in use.
pub belongs_used : (w : World) (i x : ℕ) → Belongs w i x → w.stands x ≡ Unused → ⊥
belongs_used w i x (opened e) u = cc
belongs_used w i x (loose l e) u = cc
belongs_used w i x (slot h t l e) u = cc
belongs_used w i x (stack h d l e) u = cc
belongs_used w i x (field a k e o) u = cc
belongs_used w i x (child v at e o) u = cc

-- What is held or frozen is in use.
pub held_used : (p : Place) → Held p ≡ Unused → ⊥
held_used p e = cc

pub froze_used : Froze ≡ Unused → ⊥
froze_used e = cc

-- ---- levels

-- A region has one role.
role_level : (w : World) (x y i l m : ℕ) → x ≡ y → w.role x ≡ Some (i, l) → w.role y ≡ Some (i, m) → l ≡ m
role_level w x y i l m at e f = ap (λ (p : ℕ × ℕ). p.1) (same_Some (i, l) (i, m) (sym e ∙ ap w.role at ∙ f))

role_some : (w : World) (x y i l : ℕ) → x ≡ y → w.role x ≡ Some (i, l) → w.role y ≡ None → ⊥
role_some w x y i l at e f = none-some (i, l) (sym f ∙ sym (ap w.role at) ∙ e)

-- What is over a region is at one level.
pub one_level : (w : World) (i : ℕ) {q l : ℕ} (m : ℕ) → Over w i q l → Over w i q m → l ≡ m
one_level w i m (over_loose e) (over_loose f) = cc
one_level w i m (over_loose e) (over_slot h s f) = absurd (cc)
one_level w i m (over_loose e) (over_own a k f r) = absurd (cc)
one_level w i m (over_loose e) (over_field a k f r o) = absurd (cc)
one_level w i m (over_loose e) (over_part u at f s r) = absurd (cc)
one_level w i m (over_loose e) (over_child u at f s r o) = absurd (cc)
one_level w i m (over_slot h s e) (over_loose f) = absurd (cc)
one_level w i m (over_slot h s e) (over_slot g t f) = cc
one_level w i m (over_slot h s e) (over_own a k f r) = absurd (cc)
one_level w i m (over_slot h s e) (over_field a k f r o) = absurd (cc)
one_level w i m (over_slot h s e) (over_part u at f t r) = absurd (cc)
one_level w i m (over_slot h s e) (over_child u at f t r o) = absurd (cc)
one_level w i m (over_own a k e r) (over_loose f) = absurd (cc)
one_level w i m (over_own a k e r) (over_slot g t f) = absurd (cc)
one_level w i {l = l} m (over_own a k e r) (over_own c n f t) = let is : a ≡ c = cc in role_level w (w.region a) (w.region c) i l m (ap w.region is) r t
one_level w i {l = l} m (over_own a k e r) (over_field c n f t o) = let is : a ≡ c = cc in absurd (role_some w (w.region a) (w.region c) i l (ap w.region is) r t)
one_level w i m (over_own a k e r) (over_part u at f s t) = absurd (cc)
one_level w i m (over_own a k e r) (over_child u at f s t o) = absurd (cc)
one_level w i m (over_field a k e r p) (over_loose f) = absurd (cc)
one_level w i m (over_field a k e r p) (over_slot g t f) = absurd (cc)
one_level w i m (over_field a k e r p) (over_own c n f t) = let is : a ≡ c = cc in absurd (role_some w (w.region c) (w.region a) i m (ap w.region (sym is)) t r)
one_level w i m (over_field a k e r p) (over_field c n f t o) = let is : a ≡ c = cc in one_level w i m p (subst (λ (x : Address). Over w i (w.region x) m) (sym is) o)
one_level w i m (over_field a k e r p) (over_part u at f s t) = absurd (cc)
one_level w i m (over_field a k e r p) (over_child u at f s t o) = absurd (cc)
one_level w i m (over_part u at e s r) (over_loose f) = absurd (cc)
one_level w i m (over_part u at e s r) (over_slot g t f) = absurd (cc)
one_level w i m (over_part u at e s r) (over_own c n f t) = absurd (cc)
one_level w i m (over_part u at e s r) (over_field c n f t o) = absurd (cc)
one_level w i {l = l} m (over_part u at e s r) (over_part v to f y t) = let is : u ≡ v = cc in role_level w u v i l m is r t
one_level w i {l = l} m (over_part u at e s r) (over_child v to f y t o) = let is : u ≡ v = cc in absurd (role_some w u v i l is r t)
one_level w i m (over_child u at e s r p) (over_loose f) = absurd (cc)
one_level w i m (over_child u at e s r p) (over_slot g t f) = absurd (cc)
one_level w i m (over_child u at e s r p) (over_own c n f t) = absurd (cc)
one_level w i m (over_child u at e s r p) (over_field c n f t o) = absurd (cc)
one_level w i m (over_child u at e s r p) (over_part v to f y t) = let is : u ≡ v = cc in absurd (role_some w v u i m (sym is) t r)
one_level w i m (over_child u at e s r p) (over_child v to f y t o) = let is : u ≡ v = cc in one_level w i m p (subst (λ (x : ℕ). Over w i x m) (sym is) o)

-- There is no level over what a stack holds.
pub none_over_stack : (w : World) (i q l j h d k : ℕ) → w.stands q ≡ Held (OnStack j h d k) → Over w i q l → ⊥
none_over_stack w i q l j h d k e (over_loose f) = cc
none_over_stack w i q l j h d k e (over_slot g s f) = cc
none_over_stack w i q l j h d k e (over_own a n f r) = cc
none_over_stack w i q l j h d k e (over_field a n f r o) = cc
none_over_stack w i q l j h d k e (over_part u at f s r) = cc
none_over_stack w i q l j h d k e (over_child u at f s r o) = cc

-- ---- region r, of actor i, stands as s

module _
    (w : World) (objects : ObjectMap) (count : ℕ) (ok : WorldOk w objects count) (i : ℕ) (here : i < count) (b : ℕ) (gone : Place → Bool) (r : ℕ) (s : Standing)
    -- it is of the actor, is not frozen and not open, and the places that may hold it are left
    (mine : Belongs w i r) (warm : Frozen w r → ⊥) (shut : (j : ℕ) → w.stands r ≡ Opened j → ⊥)
    (held : (p : Place) → w.stands r ≡ Held p → gone p ≡ true) (part : (u : ℕ) (p : Place) → w.stands r ≡ Child u (Some p) → gone p ≡ true)
    -- no level below that of the frame is over it, and all contexts above the frame's are open
    (high : (l : ℕ) → l < b → Over w i r l → ⊥) (above : (j : ℕ) → b < j → j ≤ w.top i → w.stands (w.context i j) ≡ Opened i)
    -- what it was seen from it is seen from, and its new parent or holder is there
    (seen : (c u : ℕ) (at : Option Place) → w.stands r ≡ Child u at → Seen (standing w r s) c u → Seen (standing w r s) c r)
    (parent : (u : ℕ) (at : Option Place) → s ≡ Child u at → u < w.next) (holder : (a : Address) (k : ℕ) → s ≡ Held (InField a k) → (o : Object) × (get objects a ≡ Some o))
    -- it is in use still
    (alive : s ≡ Unused → ⊥)
  where
    other : (x : ℕ) → (r ≡ x → ⊥) → (standing w r s).stands x ≡ w.stands x
    other x n = stand_other w.stands r s x n

    -- Nothing that is frozen is r.
    not_ice : {x : ℕ} → Frozen w x → r ≡ x → ⊥
    not_ice f e = warm (subst (Frozen w) (sym e) f)

    pub frozen_on : {x : ℕ} → Frozen w x → Frozen (standing w r s) x
    frozen_on {x} (ice e) = ice (other x (not_ice (ice e)) ∙ e)
    frozen_on {x} (in_ice a k e f) = in_ice a k (other x (not_ice (in_ice a k e f)) ∙ e) (frozen_on f)
    frozen_on {x} (under_ice u at e f) = under_ice u at (other x (not_ice (under_ice u at e f)) ∙ e) (frozen_on f)

    pub seen_on : {c x : ℕ} → Seen w c x → Seen (standing w r s) c x
    seen_on (same e) = same e
    seen_on (frozen f) = frozen (frozen_on f)
    seen_on {c} {x} (under u at e k) =
        elim (cases_eq r x) [
          | inl is ↦ subst (Seen (standing w r s) c) is (seen c u at (ap w.stands is ∙ e) (seen_on k))
          | inr n ↦ under u at (other x n ∙ e) (seen_on k)
        ]

    -- If r is not among what this level is over.
    pub over_through : (j l : ℕ) → ((x : ℕ) → Over w j x l → r ≡ x → ⊥) → {x : ℕ} → Over w j x l → Over (standing w r s) j x l
    over_through j l n {x} (over_loose e) = over_loose (other x (n x (over_loose e)) ∙ e)
    over_through j l n {x} (over_slot h t e) = over_slot h t (other x (n x (over_slot h t e)) ∙ e)
    over_through j l n {x} (over_own a k e t) = over_own a k (other x (n x (over_own a k e t)) ∙ e) t
    over_through j l n {x} (over_field a k e t o) = over_field a k (other x (n x (over_field a k e t o)) ∙ e) t (over_through j l n o)
    over_through j l n {x} (over_part u at e y t) = over_part u at (other x (n x (over_part u at e y t)) ∙ e) y t
    over_through j l n {x} (over_child u at e y t o) = over_child u at (other x (n x (over_child u at e y t o)) ∙ e) y t (over_through j l n o)

    pub over_low : (l : ℕ) → l < b → {x : ℕ} → Over w i x l → Over (standing w r s) i x l
    over_low l low o = over_through i l (λ x k e. high l low (subst (λ (y : ℕ). Over w i y l) (sym e) k)) o

    not_others : (j : ℕ) → i ≢ j → {x : ℕ} → Belongs w j x → r ≡ x → ⊥
    not_others j n k e = n (one_actor w j mine (subst (Belongs w j) (sym e) k))

    pub over_other : (j : ℕ) → j < count → i ≢ j → {x l : ℕ} → Over w j x l → Over (standing w r s) j x l
    over_other j there n {x} {l} o = over_through j l (λ y k e. not_others j n (over_is_of w objects count ok j there k) e) o

    -- ---- places

    fits_in : (p : Place) (f : Form) (q : ℕ) → gone p ≡ false → FitsIn w p f q → FitsIn (standing w r s) p f q
    fits_in p form.IsoE q g e = other q (λ is. false_true (sym g ∙ held p (ap w.stands is ∙ e))) ∙ e
    fits_in p form.TrnE q g e = other q (λ is. false_true (sym g ∙ part (home w p) p (ap w.stands is ∙ e))) ∙ e ∙ ap (λ (c : ℕ). Child c (Some p)) (sym (home_standing w r s p))
    fits_in p form.Iso q g e = tt
    fits_in p form.Trn q g e = subst (λ (c : ℕ). Seen (standing w r s) c q) (sym (home_standing w r s p)) (seen_on e)
    fits_in p form.Ref q g e = e ∙ sym (home_standing w r s p)
    fits_in p form.Val q g e = frozen_on e
    fits_in p form.Box q g e = subst (λ (c : ℕ). Seen (standing w r s) c q) (sym (home_standing w r s p)) (seen_on e)
    fits_in p form.Tag q g e = tt

    fits_on : (p : Place) (f : Form) (v : Value) → gone p ≡ false → Fits w p f v → Fits (standing w r s) p f v
    fits_on p f (At a) g e = fits_in p f (w.region a) g e
    fits_on p f (Num n) g e = tt
    fits_on p f (Truth t) g e = tt
    fits_on p f (Text t) g e = tt
    fits_on p f (Prim n) g e = tt

    alias_in : (j c : ℕ) (f : Form) (q : ℕ) → j < count → i ≢ j → AliasIn w j c (w.top j) f q → AliasIn (standing w r s) j c (w.top j) f q
    alias_in j c form.Iso q there n a =
        let far = λ (e : r ≡ q). not_others j n (over_is_of w objects count ok j there a.5) e in
        (a.0, λ u at e. a.1 u at (sym (other q far) ∙ e), a.2, a.3, a.4, over_other j there n a.5)
    alias_in j c form.Trn q there n a =
        let far = λ (e : r ≡ q). not_others j n (child (w.context j (w.top j)) a.1 a.2 (context_belongs w objects count ok j there (w.top j) (omega arith))) e in
        (a.0, a.1, other q far ∙ a.2, a.3)
    alias_in j c form.IsoE q there n a = tt
    alias_in j c form.TrnE q there n a = tt
    alias_in j c form.Ref q there n a = tt
    alias_in j c form.Val q there n a = tt
    alias_in j c form.Box q there n a = tt
    alias_in j c form.Tag q there n a = tt

    alias_on : (j c : ℕ) (f : Form) (v : Value) → j < count → i ≢ j → Alias w j c (w.top j) f v → Alias (standing w r s) j c (w.top j) f v
    alias_on j c f (At a) there n k = alias_in j c f (w.region a) there n k
    alias_on j c f (Num m) there n k = tt
    alias_on j c f (Truth t) there n k = tt
    alias_on j c f (Text t) there n k = tt
    alias_on j c f (Prim m) there n k = tt

    -- ---- the world

    opened_on : (q j : ℕ) → w.stands q ≡ Opened j → (standing w r s).stands q ≡ Opened j
    opened_on q j e = other q (λ is. shut j (ap w.stands is ∙ e)) ∙ e

    context_on : (j l : ℕ) → j < count → l ≤ w.top j → ((w.stands (w.context j l) ≡ Opened j) ⊎ ((m : ℕ) × (m < l) × Over w j (w.context j l) m))
        → ((standing w r s).stands (w.context j l) ≡ Opened j) ⊎ ((m : ℕ) × (m < l) × Over (standing w r s) j (w.context j l) m)
    context_on j l there t (inl e) = inl (opened_on (w.context j l) j e)
    context_on j l there t (inr o) =
        elim (cases_eq i j) [
          | inl is ↦ elim (cases_lt b l) [
            | inl up ↦ inl (opened_on (w.context j l) j (subst (λ (k : ℕ). w.stands (w.context k l) ≡ Opened k) is (above l up (subst (λ (k : ℕ). l ≤ w.top k) (sym is) t))))
            | inr low ↦ let m : ℕ = o.0 in
                let under_it = o.1 in
                inr (m, o.1, subst (λ (k : ℕ). Over (standing w r s) k (w.context j l) m) is (over_low m (omega (arith, under_it, low)) (subst (λ (k : ℕ). Over w k (w.context j l) m) (sym is) o.2)))
          ]
          | inr n ↦ inr (o.0, o.1, over_other j there n o.2)
        ]

    used_on : (x : ℕ) → (w.stands x ≡ Unused → ⊥) → (standing w r s).stands x ≡ Unused → ⊥
    used_on x used e =
        elim (cases_eq r x) [
          | inl is ↦ alive (sym (stand_here w.stands r s) ∙ ap (standing w r s).stands is ∙ e)
          | inr n ↦ used (sym (other x n) ∙ e)
        ]

    world_on : WorldOk (standing w r s) objects count
    world_on = record {
      zero = ok.zero;
      named = ok.named;
      roles = ok.roles;
      root = λ j there. opened_on (w.context j 0) j (ok.root j there);
      own = ok.own;
      contexts = λ j l there t. context_on j l there t (ok.contexts j l there t);
      unused = λ q more. (other q (λ is. belongs_used w i r mine (ap w.stands is ∙ (ok.unused q more).0)) ∙ (ok.unused q more).0, (ok.unused q more).1);
      regions = ok.regions;
      parents = λ q u at e.
          elim (cases_eq r q) [
            | inl is ↦ parent u at (sym (stand_here w.stands r s) ∙ ap (standing w r s).stands is ∙ e)
            | inr n ↦ ok.parents q u at (sym (other q n) ∙ e)
          ];
      holders = λ q a k e.
          elim (cases_eq r q) [
            | inl is ↦ holder a k (sym (stand_here w.stands r s) ∙ ap (standing w r s).stands is ∙ e)
            | inr n ↦ ok.holders q a k (sym (other q n) ∙ e)
          ];
      absent = λ a e. other (w.region a) (λ is. belongs_used w i r mine (ap w.stands is ∙ ok.absent a e)) ∙ ok.absent a e;
      present = λ a o e u. used_on (w.region a) (ok.present a o e) u;
      homes = λ j l there u. used_on (w.context j l) (ok.homes j l there) u;
    }

    pub standing_shifts : Shifts w (standing w r s) objects count i b gone
    standing_shifts = record {
      world = world_on;
      fits = fits_on;
      sent = λ j. refl;
      top = λ j n. refl;
      context = λ l n. refl;
      contexts = λ j l there n t. refl;
      opened = λ j l n e. opened_on (w.context j l) j e;
      alias = alias_on;
      over = λ j m l there n o. over_other j there n o;
      low = λ m l n k o. over_low l k o;
    }
