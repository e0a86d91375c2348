-- A region becomes a part of another: what is in it is then in the other, and what was seen from it is seen from the
-- other.
use Rattle.std.specs.{Prelude.{◌≡◌, ◌⊎◌, ℕ, ◌<◌, ◌≤◌, Bool, true, false, cond, Option, Some, None, refl}, FinMap.get}
use Rattle.std.proofs.{Common.{inl, inr, ap, sym, subst, ◌∙◌, arith}, lemmas.Bool.{eq-eqb, ne_eqb, cases_eq}, lemmas.Option.none-some}
use Rattle.pc_heap.specs.{Objects.{ObjectMap, Object}, declared.value.Address.Address, declared.value.Value.Value, declared.value.Value.TheVariants.{Num, Truth, Text, Prim, At}}
use Rattle.pc_caps.specs.declared.capability.Form.{Form}
use Rattle.pc_caps.specs.declared.capability.Form.TheVariants as form
use Rattle.pc_base.proofs.Bools.{false_true}
use Rattle.pc_regions.proofs.{World.{Place, InSlot, OnStack, InField, InMail, Standing, Unused, Froze, Opened, Loose, Held, Child, World, home, Frozen, ice, in_ice, under_ice, Belongs, Seen, same, under, frozen, steady, Over, over_loose, over_slot, over_own, over_field, over_part, over_child, FitsIn, Fits, AliasIn, Alias, WorldOk}, Changes.{renamed, child_renamed, merged, Shifts}, StandsOtherwise.{stand_here, stand_other, belongs_used}}

pub renamed_here : (q r x : ℕ) → q ≡ x → renamed q r x ≡ r
renamed_here q r x e = ap (λ (b : Bool). cond b r x) (eq-eqb q x e)

pub renamed_other : (q r x : ℕ) → (q ≡ x → ⊥) → renamed q r x ≡ x
renamed_other q r x n = ap (λ (b : Bool). cond b r x) (ne_eqb q x n)

-- ---- how it stands before and after

was_child : (q r u : ℕ) (at : Option Place) (s : Standing) → child_renamed q r s ≡ Child u at → (v : ℕ) × (s ≡ Child v at) × (u ≡ renamed q r v)
was_child q r u at (Child v to) e = (v, (cc), (cc))
was_child q r u at Unused e = absurd (cc)
was_child q r u at Froze e = absurd (cc)
was_child q r u at (Opened j) e = absurd (cc)
was_child q r u at (Loose j l) e = absurd (cc)
was_child q r u at (Held p) e = absurd (cc)

was_held : (q r : ℕ) (p : Place) (s : Standing) → child_renamed q r s ≡ Held p → s ≡ Held p
was_held q r p (Child v to) e = absurd (cc)
was_held q r p Unused e = e
was_held q r p Froze e = e
was_held q r p (Opened j) e = e
was_held q r p (Loose j l) e = e
was_held q r p (Held o) e = e

was_unused : (q r : ℕ) (s : Standing) → child_renamed q r s ≡ Unused → s ≡ Unused
was_unused q r (Child u at) e = absurd (cc)
was_unused q r Unused e = e
was_unused q r Froze e = e
was_unused q r (Opened j) e = e
was_unused q r (Loose j l) e = e
was_unused q r (Held o) e = e

-- ---- region q of actor i becomes a part of region r

module _
    (w : World) (objects : ObjectMap) (count : ℕ) (ok : WorldOk w objects count) (i : ℕ) (here : i < count) (b : ℕ) (floor : b ≤ w.top i) (gone : Place → Bool) (q r : ℕ)
    -- it is another, and in use
    (apart : q ≡ r → ⊥) (used : r < w.next) (alive : w.stands r ≡ Unused → ⊥)
    -- it is not a context, it belongs to the actor, it is neither frozen nor open, and the places that may hold it are
    -- left
    (plain : w.role q ≡ None) (mine : Belongs w i q) (warm : Frozen w q → ⊥) (shut : (j : ℕ) → w.stands q ≡ Opened j → ⊥)
    (held : (p : Place) → w.stands q ≡ Held p → gone p ≡ true) (part : (u : ℕ) (p : Place) → w.stands q ≡ Child u (Some p) → gone p ≡ true)
    -- no level is over it, and it is a child at most at a place of a stack
    (free : (j l : ℕ) → Over w j q l → ⊥) (unsteady : (u : ℕ) (at : Option Place) → w.stands q ≡ Child u at → steady at ≡ true → ⊥)
    -- what it was seen from the other is seen from
    (seen : (c u : ℕ) (at : Option Place) → w.stands q ≡ Child u at → Seen (merged w q r) c (renamed q r u) → Seen (merged w q r) c r)
  where
    -- ---- how regions stand

    stands_other : (x : ℕ) → (q ≡ x → ⊥) → (merged w q r).stands x ≡ child_renamed q r (w.stands x)
    stands_other x n = ap (child_renamed q r) (stand_other w.stands q Unused x n)

    stands_here : (merged w q r).stands q ≡ Unused
    stands_here = ap (child_renamed q r) (stand_here w.stands q Unused)

    plain_on : (x : ℕ) (s : Standing) → (q ≡ x → ⊥) → w.stands x ≡ s → child_renamed q r s ≡ s → (merged w q r).stands x ≡ s
    plain_on x s n e c = stands_other x n ∙ ap (child_renamed q r) e ∙ c

    child_on : (x u : ℕ) (at : Option Place) → (q ≡ x → ⊥) → w.stands x ≡ Child u at → (merged w q r).stands x ≡ Child (renamed q r u) at
    child_on x u at n e = stands_other x n ∙ ap (child_renamed q r) e

    -- Nothing that has a role, that is frozen, or that a level is over is q.
    has_role : (x j l : ℕ) → w.role x ≡ Some (j, l) → q ≡ x → ⊥
    has_role x j l e is = none-some (j, l) (sym plain ∙ ap w.role is ∙ e)

    not_ice : {x : ℕ} → Frozen w x → q ≡ x → ⊥
    not_ice f e = warm (subst (Frozen w) (sym e) f)

    not_under : {x : ℕ} (j l : ℕ) → Over w j x l → q ≡ x → ⊥
    not_under j l o e = free j l (subst (λ (y : ℕ). Over w j y l) (sym e) o)

    -- ---- what is frozen, seen, or has a level over it

    pub frozen_on : {x : ℕ} → Frozen w x → Frozen (merged w q r) x
    frozen_on {x} (ice e) = ice (plain_on x Froze (not_ice (ice e)) e refl)
    frozen_on {x} (in_ice a k e f) =
        in_ice a k (plain_on x (Held (InField a k)) (not_ice (in_ice a k e f)) e refl) (subst (Frozen (merged w q r)) (sym (renamed_other q r (w.region a) (not_ice f))) (frozen_on f))
    frozen_on {x} (under_ice u at e f) =
        under_ice u at (child_on x u at (not_ice (under_ice u at e f)) e ∙ ap (λ (y : ℕ). Child y at) (renamed_other q r u (not_ice f))) (frozen_on f)

    pub frozen_too : {x : ℕ} → Frozen w x → Frozen (merged w q r) (renamed q r x)
    frozen_too {x} f = subst (Frozen (merged w q r)) (sym (renamed_other q r x (not_ice f))) (frozen_on f)

    pub seen_on : {c x : ℕ} → Seen w c x → Seen (merged w q r) (renamed q r c) (renamed q r x)
    seen_on (same e) = same (ap (renamed q r) e)
    seen_on (frozen f) = frozen (frozen_too f)
    seen_on {c} {x} (under u at e k) =
        elim (cases_eq q x) [
          | inl is ↦ subst (Seen (merged w q r) (renamed q r c)) (sym (renamed_here q r x is)) (seen (renamed q r c) u at (ap w.stands is ∙ e) (seen_on k))
          | inr n ↦ subst (Seen (merged w q r) (renamed q r c)) (sym (renamed_other q r x n)) (under (renamed q r u) at (child_on x u at n e) (seen_on k))
        ]

    pub over_on : (j l : ℕ) {x : ℕ} → Over w j x l → Over (merged w q r) j x l
    over_on j l {x} (over_loose e) = over_loose (plain_on x (Loose j l) (not_under j l (over_loose e)) e refl)
    over_on j l {x} (over_slot h t e) = over_slot h t (plain_on x (Held (InSlot j h t l)) (not_under j l (over_slot h t e)) e refl)
    over_on j l {x} (over_own a k e t) =
        over_own a k (plain_on x (Held (InField a k)) (not_under j l (over_own a k e t)) e refl)
        (ap w.role (renamed_other q r (w.region a) (has_role (w.region a) j l t)) ∙ t)
    over_on j l {x} (over_field a k e t o) =
        let stay : renamed q r (w.region a) ≡ w.region a = renamed_other q r (w.region a) (not_under j l o) in
        over_field a k (plain_on x (Held (InField a k)) (not_under j l (over_field a k e t o)) e refl) (ap w.role stay ∙ t)
        (subst (λ (y : ℕ). Over (merged w q r) j y l) (sym stay) (over_on j l o))
    over_on j l {x} (over_part u at e y t) =
        over_part u at (child_on x u at (not_under j l (over_part u at e y t)) e ∙ ap (λ (z : ℕ). Child z at) (renamed_other q r u (has_role u j l t))) y t
    over_on j l {x} (over_child u at e y t o) =
        over_child u at (child_on x u at (not_under j l (over_child u at e y t o)) e ∙ ap (λ (z : ℕ). Child z at) (renamed_other q r u (not_under j l o))) y t (over_on j l o)

    -- ---- places

    nothing : renamed q r 0 ≡ 0
    nothing = renamed_other q r 0 (has_role 0 0 0 ok.zero)

    home_on : (p : Place) → home (merged w q r) p ≡ renamed q r (home w p)
    home_on (InSlot j h t l) = refl
    home_on (OnStack j h d l) = refl
    home_on (InField a k) = refl
    home_on (InMail j t k) = sym nothing

    fits_in : (p : Place) (f : Form) (x : ℕ) → gone p ≡ false → FitsIn w p f x → FitsIn (merged w q r) p f (renamed q r x)
    fits_in p form.IsoE x g e =
        let n = λ (is : q ≡ x). false_true (sym g ∙ held p (ap w.stands is ∙ e)) in
        ap (merged w q r).stands (renamed_other q r x n) ∙ plain_on x (Held p) n e refl
    fits_in p form.TrnE x g e =
        let n = λ (is : q ≡ x). false_true (sym g ∙ part (home w p) p (ap w.stands is ∙ e)) in
        ap (merged w q r).stands (renamed_other q r x n) ∙ child_on x (home w p) (Some p) n e ∙ ap (λ (c : ℕ). Child c (Some p)) (sym (home_on p))
    fits_in p form.Iso x g e = tt
    fits_in p form.Trn x g e = subst (λ (c : ℕ). Seen (merged w q r) c (renamed q r x)) (sym (home_on p)) (seen_on e)
    fits_in p form.Ref x g e = ap (renamed q r) e ∙ sym (home_on p)
    fits_in p form.Val x g e = frozen_too e
    fits_in p form.Box x g e = subst (λ (c : ℕ). Seen (merged w q r) c (renamed q r x)) (sym (home_on p)) (seen_on e)
    fits_in p form.Tag x g e = tt

    fits_on : (p : Place) (f : Form) (v : Value) → gone p ≡ false → Fits w p f v → Fits (merged w q r) p f v
    fits_on p f (At a) g e = fits_in p f (w.region a) g e
    fits_on p f (Num n) g e = tt
    fits_on p f (Truth t) g e = tt
    fits_on p f (Text t) g e = tt
    fits_on p f (Prim n) g e = tt

    alias_in : (j c k : ℕ) (f : Form) (x : ℕ) → AliasIn w j c k f x → AliasIn (merged w q r) j c k f (renamed q r x)
    alias_in j c k form.Iso x a =
        let n = not_under j a.2 a.5 in
        subst (AliasIn (merged w q r) j c k form.Iso) (sym (renamed_other q r x n)) (a.0, λ u at e. let y = was_child q r u at (w.stands x) (sym (stands_other x n) ∙ e) in a.1 y.0 at y.1, a.2, a.3, a.4, over_on j a.2 a.5)
    alias_in j c k form.Trn x a =
        let n = λ (is : q ≡ x). unsteady (w.context j k) a.1 (ap w.stands is ∙ a.2) a.3 in
        subst (AliasIn (merged w q r) j c k form.Trn) (sym (renamed_other q r x n)) (a.0, a.1, child_on x (w.context j k) a.1 n a.2, a.3)
    alias_in j c k form.IsoE x a = tt
    alias_in j c k form.TrnE x a = tt
    alias_in j c k form.Ref x a = tt
    alias_in j c k form.Val x a = tt
    alias_in j c k form.Box x a = tt
    alias_in j c k form.Tag x a = tt

    pub alias_on : (j c k : ℕ) (f : Form) (v : Value) → Alias w j c k f v → Alias (merged w q r) j c k f v
    alias_on j c k f (At a) e = alias_in j c k f (w.region a) e
    alias_on j c k f (Num m) e = tt
    alias_on j c k f (Truth t) e = tt
    alias_on j c k f (Text t) e = tt
    alias_on j c k f (Prim m) e = tt

    -- ---- the world

    pub opened_on : (x j : ℕ) → w.stands x ≡ Opened j → (merged w q r).stands x ≡ Opened j
    opened_on x j e = plain_on x (Opened j) (λ is. shut j (ap w.stands is ∙ e)) e refl

    pub opened_too : (x j : ℕ) → w.stands x ≡ Opened j → (merged w q r).stands (renamed q r x) ≡ Opened j
    opened_too x j e = ap (merged w q r).stands (renamed_other q r x (λ is. shut j (ap w.stands is ∙ e))) ∙ opened_on x j e

    pub context_same : (j l : ℕ) → j < count → l ≤ w.top j → renamed q r (w.context j l) ≡ w.context j l
    context_same j l there t = renamed_other q r (w.context j l) (has_role (w.context j l) j l (ok.named j l there t))

    over_too : (j m l : ℕ) → Over w j (w.context j m) l → Over (merged w q r) j (renamed q r (w.context j m)) l
    over_too j m l o = subst (λ (y : ℕ). Over (merged w q r) j y l) (sym (renamed_other q r (w.context j m) (not_under j l o))) (over_on j l o)

    below_next : (x : ℕ) → x < w.next → renamed q r x < w.next
    below_next x l =
        elim (cases_eq q x) [
          | inl is ↦ subst (λ (y : ℕ). y < w.next) (sym (renamed_here q r x is)) used
          | inr n ↦ subst (λ (y : ℕ). y < w.next) (sym (renamed_other q r x n)) l
        ]

    unused_on : (x : ℕ) → w.next ≤ x → (merged w q r).stands x ≡ Unused
    unused_on x more = plain_on x Unused (λ is. belongs_used w i q mine (ap w.stands is ∙ (ok.unused x more).0)) (ok.unused x more).0 refl

    parents_on : (x u : ℕ) (at : Option Place) → (merged w q r).stands x ≡ Child u at → u < w.next
    parents_on x u at e =
        elim (cases_eq q x) [
          | inl is ↦ absurd (not_unused (sym stands_here ∙ ap (merged w q r).stands is ∙ e))
          | inr n ↦ let y = was_child q r u at (w.stands x) (sym (stands_other x n) ∙ e) in subst (λ (z : ℕ). z < w.next) (sym y.2) (below_next y.0 (ok.parents x y.0 at y.1))
        ]
      where
        not_unused : Unused ≡ Child u at → ⊥
        not_unused f = cc

    holders_on : (x : ℕ) (a : Address) (k : ℕ) → (merged w q r).stands x ≡ Held (InField a k) → (o : Object) × (get objects a ≡ Some o)
    holders_on x a k e =
        elim (cases_eq q x) [
          | inl is ↦ absurd (not_unused (sym stands_here ∙ ap (merged w q r).stands is ∙ e))
          | inr n ↦ ok.holders x a k (was_held q r (InField a k) (w.stands x) (sym (stands_other x n) ∙ e))
        ]
      where
        not_unused : Unused ≡ Held (InField a k) → ⊥
        not_unused f = cc

    used_on : (x : ℕ) → (w.stands x ≡ Unused → ⊥) → (merged w q r).stands (renamed q r x) ≡ Unused → ⊥
    used_on x live e =
        elim (cases_eq q x) [
          | inl is ↦ alive (was_unused q r (w.stands r) (sym (stands_other r apart) ∙ ap (merged w q r).stands (sym (renamed_here q r x is)) ∙ e))
          | inr n ↦ live (was_unused q r (w.stands x) (sym (stands_other x n) ∙ ap (merged w q r).stands (sym (renamed_other q r x n)) ∙ e))
        ]

    absent_on : (x : ℕ) → w.stands x ≡ Unused → (merged w q r).stands (renamed q r x) ≡ Unused
    absent_on x e =
        let n = λ (is : q ≡ x). belongs_used w i q mine (ap w.stands is ∙ e) in
        ap (merged w q r).stands (renamed_other q r x n) ∙ plain_on x Unused n e refl

    context_on : (j l : ℕ) → ((w.stands (w.context j l) ≡ Opened j) ⊎ ((m : ℕ) × (m < l) × Over w j (w.context j l) m))
        → ((merged w q r).stands (renamed q r (w.context j l)) ≡ Opened j) ⊎ ((m : ℕ) × (m < l) × Over (merged w q r) j (renamed q r (w.context j l)) m)
    context_on j l (inl e) = inl (opened_too (w.context j l) j e)
    context_on j l (inr o) = inr (o.0, o.1, over_too j l o.0 o.2)

    world_on : WorldOk (merged w q r) objects count
    world_on = record {
      zero = ok.zero;
      named = λ j l there t. ap w.role (context_same j l there t) ∙ ok.named j l there t;
      roles = λ x j l e. let k = ok.roles x j l e in (k.0, k.1, context_same j l k.0 k.1 ∙ k.2);
      root = λ j there. opened_too (w.context j 0) j (ok.root j there);
      own = λ j there. ap (renamed q r) (ok.own j there);
      contexts = λ j l there t. context_on j l (ok.contexts j l there t);
      unused = λ x more. (unused_on x more, (ok.unused x more).1);
      regions = λ a. below_next (w.region a) (ok.regions a);
      parents = parents_on;
      holders = holders_on;
      absent = λ a e. absent_on (w.region a) (ok.absent a e);
      present = λ a o e u. used_on (w.region a) (ok.present a o e) u;
      homes = λ j l there u. used_on (w.context j l) (ok.homes j l there) u;
    }

    pub merged_shifts : Shifts w (merged w q r) objects count i b gone
    merged_shifts = record {
      world = world_on;
      fits = fits_on;
      sent = λ j. refl;
      top = λ j n. refl;
      context = λ l low. context_same i l here (omega (arith, low, floor));
      contexts = λ j l there n t. context_same j l there t;
      opened = λ j l n e. opened_too (w.context j l) j e;
      alias = λ j c f v there n a. alias_on j c (w.top j) f v a;
      over = λ j m l there n o. over_too j m l o;
      low = λ m l n k o. over_too i m l o;
    }
