-- A world in which the regions of objects are unchanged: what is frozen, seen, or under a level stays so if what it
-- rests on does.
use Rattle.std.specs.Prelude.{◌≡◌, ℕ, ◌≤◌, Bool, true, false, ◌&&◌, cond, Option, Some, None, nat_eq, refl}
use Rattle.std.proofs.{Common.{inl, inr, ap, sym, subst, ◌∙◌}, lemmas.Bool.{eq-eqb, ne_eqb, cases_eq}}
use Rattle.pc_heap.specs.{declared.value.Address.Address, declared.value.Value.Value, declared.value.Value.TheVariants.{Num, Truth, Text, Prim, At}}
use Rattle.pc_caps.specs.declared.capability.Form.{Form}
use Rattle.pc_caps.specs.declared.capability.Form.TheVariants as form
use Rattle.pc_regions.proofs.{World.{Place, InSlot, InField, Froze, Loose, Held, Child, World, home, Frozen, ice, in_ice, under_ice, Seen, same, under, frozen, steady, Over, over_loose, over_slot, over_own, over_field, over_part, over_child, FitsIn, Fits, AliasIn, Alias}, Changes.{with_context, with_number, with_role}}

module _
    (w w' : World) (region : (a : Address) → w'.region a ≡ w.region a) (ices : (x : ℕ) → w.stands x ≡ Froze → w'.stands x ≡ Froze)
    (fields : (x : ℕ) (a : Address) (k : ℕ) → w.stands x ≡ Held (InField a k) → w'.stands x ≡ Held (InField a k))
    (children : (x u : ℕ) (at : Option Place) → w.stands x ≡ Child u at → (to : Option Place) × (w'.stands x ≡ Child u to) × (steady at ≡ true → steady to ≡ true))
  where
    pub frozen_same : {x : ℕ} → Frozen w x → Frozen w' x
    frozen_same {x} (ice e) = ice (ices x e)
    frozen_same {x} (in_ice a k e f) = in_ice a k (fields x a k e) (subst (Frozen w') (sym (region a)) (frozen_same f))
    frozen_same {x} (under_ice u at e f) = let y = children x u at e in under_ice u y.0 y.1 (frozen_same f)

    pub seen_same : {c x : ℕ} → Seen w c x → Seen w' c x
    seen_same (same e) = same e
    seen_same (frozen f) = frozen (frozen_same f)
    seen_same {c} {x} (under u at e k) = let y = children x u at e in under u y.0 y.1 (seen_same k)

    module _
        (gone : Place → Bool) (homes : (p : Place) → gone p ≡ false → home w' p ≡ home w p) (helds : (x : ℕ) (p : Place) → gone p ≡ false → w.stands x ≡ Held p → w'.stands x ≡ Held p)
        (parts : (x u : ℕ) (p : Place) → gone p ≡ false → w.stands x ≡ Child u (Some p) → w'.stands x ≡ Child u (Some p))
      where
        fits_in : (p : Place) (f : Form) (x : ℕ) → gone p ≡ false → FitsIn w p f x → FitsIn w' p f x
        fits_in p form.IsoE x g e = helds x p g e
        fits_in p form.TrnE x g e = parts x (home w p) p g e ∙ ap (λ (c : ℕ). Child c (Some p)) (sym (homes p g))
        fits_in p form.Iso x g e = tt
        fits_in p form.Trn x g e = subst (λ (c : ℕ). Seen w' c x) (sym (homes p g)) (seen_same e)
        fits_in p form.Ref x g e = e ∙ sym (homes p g)
        fits_in p form.Val x g e = frozen_same e
        fits_in p form.Box x g e = subst (λ (c : ℕ). Seen w' c x) (sym (homes p g)) (seen_same e)
        fits_in p form.Tag x g e = tt

        pub fits_same : (p : Place) (f : Form) (v : Value) → gone p ≡ false → Fits w p f v → Fits w' p f v
        fits_same p f (At a) g e = subst (FitsIn w' p f) (sym (region a)) (fits_in p f (w.region a) g e)
        fits_same p f (Num n) g e = tt
        fits_same p f (Truth t) g e = tt
        fits_same p f (Text t) g e = tt
        fits_same p f (Prim n) g e = tt

    module _
        (j l : ℕ) (looses : (x : ℕ) → w.stands x ≡ Loose j l → w'.stands x ≡ Loose j l) (slots : (x h s : ℕ) → w.stands x ≡ Held (InSlot j h s l) → w'.stands x ≡ Held (InSlot j h s l))
        (roles : (x : ℕ) → w.role x ≡ Some (j, l) → w'.role x ≡ Some (j, l)) (nones : (x : ℕ) → Over w j x l → w.role x ≡ None → w'.role x ≡ None)
      where
        pub over_same : {x : ℕ} → Over w j x l → Over w' j x l
        over_same {x} (over_loose e) = over_loose (looses x e)
        over_same {x} (over_slot h t e) = over_slot h t (slots x h t e)
        over_same {x} (over_own a k e t) = over_own a k (fields x a k e) (ap w'.role (region a) ∙ roles (w.region a) t)
        over_same {x} (over_field a k e t o) = over_field a k (fields x a k e) (ap w'.role (region a) ∙ nones (w.region a) o t) (subst (λ (y : ℕ). Over w' j y l) (sym (region a)) (over_same o))
        over_same {x} (over_part u at e y t) = let c = children x u at e in over_part u c.0 c.1 (c.2 y) (roles u t)
        over_same {x} (over_child u at e y t o) = let c = children x u at e in over_child u c.0 c.1 (c.2 y) (nones u o t) (over_same o)

    module _
        (j k : ℕ) (overs : (l x : ℕ) → l ≤ k → Over w j x l → Over w' j x l) (nones : (x l : ℕ) → Over w j x l → w.role x ≡ None → w'.role x ≡ None)
        (parts : (x : ℕ) (at : Option Place) → w.stands x ≡ Child (w.context j k) at → w.role x ≡ None → w'.role x ≡ None)
        (backs : (x u : ℕ) (at : Option Place) → w'.stands x ≡ Child u at → (to : Option Place) × (w.stands x ≡ Child u to)) (context : w'.context j k ≡ w.context j k)
      where
        alias_in : (c : ℕ) (f : Form) (x : ℕ) → AliasIn w j c k f x → AliasIn w' j c k f x
        alias_in c form.Iso x a = (nones x a.2 a.5 a.0, λ u at e. let y = backs x u at e in a.1 u y.0 y.1, a.2, a.3, a.4, overs a.2 x a.4 a.5)
        alias_in c form.Trn x a =
            let y = children x (w.context j k) a.1 a.2 in
            (parts x a.1 a.2 a.0, y.0, y.1 ∙ ap (λ (z : ℕ). Child z y.0) (sym context), y.2 a.3)
        alias_in c form.IsoE x a = tt
        alias_in c form.TrnE x a = tt
        alias_in c form.Ref x a = tt
        alias_in c form.Val x a = tt
        alias_in c form.Box x a = tt
        alias_in c form.Tag x a = tt

        pub alias_same : (c : ℕ) (f : Form) (v : Value) → Alias w j c k f v → Alias w' j c k f v
        alias_same c f (At a) e = subst (AliasIn w' j c k f) (sym (region a)) (alias_in c f (w.region a) e)
        alias_same c f (Num m) e = tt
        alias_same c f (Truth t) e = tt
        alias_same c f (Text t) e = tt
        alias_same c f (Prim m) e = tt

-- ---- functions that are changed at one number

both_no : (i j a b : ℕ) → (i ≡ a → j ≡ b → ⊥) → (nat_eq i a && nat_eq j b) ≡ false
both_no i j a b n =
    elim (cases_eq i a) [
      | inl is ↦ ap (λ (x : Bool). nat_eq i a && x) (ne_eqb j b (n is)) ∙ ap (λ (x : Bool). x && false) (eq-eqb i a is)
      | inr apart ↦ ap (λ (x : Bool). x && nat_eq j b) (ne_eqb i a apart)
    ]

pub context_other : (f : ℕ → ℕ → ℕ) (i j q a b : ℕ) → (i ≡ a → j ≡ b → ⊥) → with_context f i j q a b ≡ f a b
context_other f i j q a b n = ap (λ (x : Bool). cond x q (f a b)) (both_no i j a b n)

pub context_here : (f : ℕ → ℕ → ℕ) (i j q a b : ℕ) → i ≡ a → j ≡ b → with_context f i j q a b ≡ q
context_here f i j q a b e k = ap (λ (x : Bool). cond x q (f a b)) (ap (λ (x : Bool). x && nat_eq j b) (eq-eqb i a e) ∙ eq-eqb j b k)

pub number_here : (f : ℕ → ℕ) (i n : ℕ) → with_number f i n i ≡ n
number_here f i n = ap (λ (x : Bool). cond x n (f i)) (eq-eqb i i refl)

pub number_other : (f : ℕ → ℕ) (i n a : ℕ) → (i ≡ a → ⊥) → with_number f i n a ≡ f a
number_other f i n a apart = ap (λ (x : Bool). cond x n (f a)) (ne_eqb i a apart)

pub role_here : (f : ℕ → Option (ℕ × ℕ)) (q : ℕ) (r : Option (ℕ × ℕ)) (x : ℕ) → q ≡ x → with_role f q r x ≡ r
role_here f q r x e = ap (λ (b : Bool). cond b r (f x)) (eq-eqb q x e)

pub role_other : (f : ℕ → Option (ℕ × ℕ)) (q : ℕ) (r : Option (ℕ × ℕ)) (x : ℕ) → (q ≡ x → ⊥) → with_role f q r x ≡ f x
role_other f q r x n = ap (λ (b : Bool). cond b r (f x)) (ne_eqb q x n)
