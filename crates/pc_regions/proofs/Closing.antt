-- A region that was open, and is no longer a context, stands otherwise: it is held at a place, or frozen. No chain of
-- holders leads through what is open, so every other value fits as it did.
use Rattle.std.specs.{Prelude.{◌≡◌, ◌≢◌, ◌⊎◌, ℕ, ◌<◌, ◌≤◌, Bool, Option, Some, None, refl}, FinMap.get}
use Rattle.std.proofs.{Common.{inl, inr, ap, sym, subst, ◌∙◌, arith}, lemmas.Bool.cases_eq, lemmas.Option.none-some}
use Rattle.pc_heap.specs.{Objects.{ObjectMap, Object}, declared.value.Address.Address, declared.value.Value.Value, declared.value.Value.TheVariants.{Num, Truth, Text, Prim, At}}
use Rattle.pc_caps.specs.declared.capability.Form.{Form}
use Rattle.pc_caps.specs.declared.capability.Form.TheVariants as form
use Rattle.pc_regions.proofs.{World.{Place, InSlot, InField, Standing, Unused, Loose, Opened, Held, Child, World, home, Frozen, ice, in_ice, under_ice, Seen, same, under, frozen, Over, over_loose, over_slot, over_own, over_field, over_part, over_child, FitsIn, Fits, AliasIn, Alias, WorldOk}, Changes.{standing, Shifts}, StandsOtherwise.{stand_here, stand_other, home_standing}}

module _
    (w : World) (objects : ObjectMap) (count : ℕ) (ok : WorldOk w objects count) (i : ℕ) (here : i < count) (u : ℕ) (s : Standing)
    -- it is open, and no context
    (ajar : w.stands u ≡ Opened i) (bare : w.role u ≡ None)
    -- its new parent or holder is there
    (parent : (v : ℕ) (at : Option Place) → s ≡ Child v at → v < w.next) (holder : (a : Address) (k : ℕ) → s ≡ Held (InField a k) → (o : Object) × (get objects a ≡ Some o))
    -- it is in use still
    (alive : s ≡ Unused → ⊥)
  where
    other : (x : ℕ) → (u ≡ x → ⊥) → (standing w u s).stands x ≡ w.stands x
    other x n = stand_other w.stands u s x n

    held_other : (x : ℕ) (p : Place) → w.stands x ≡ Held p → u ≡ x → ⊥
    held_other x p e is = let at : Held p ≡ Opened i = sym e ∙ ap w.stands (sym is) ∙ ajar in cc

    child_other : (x v : ℕ) (at : Option Place) → w.stands x ≡ Child v at → u ≡ x → ⊥
    child_other x v at e is = let bad : Child v at ≡ Opened i = sym e ∙ ap w.stands (sym is) ∙ ajar in cc

    frozen_other : {x : ℕ} → Frozen w x → u ≡ x → ⊥
    frozen_other (ice e) is = let o = ajar in let at = ap w.stands is in cc
    frozen_other (in_ice a k e f) is = held_other _ (InField a k) e is
    frozen_other (under_ice v at e f) is = child_other _ v at e is

    pub frozen_closed : {x : ℕ} → Frozen w x → Frozen (standing w u s) x
    frozen_closed {x} (ice e) = ice (other x (frozen_other (ice e)) ∙ e)
    frozen_closed {x} (in_ice a k e f) = in_ice a k (other x (held_other x (InField a k) e) ∙ e) (frozen_closed f)
    frozen_closed {x} (under_ice v at e f) = under_ice v at (other x (child_other x v at e) ∙ e) (frozen_closed f)

    pub seen_closed : {c x : ℕ} → Seen w c x → Seen (standing w u s) c x
    seen_closed (same e) = same e
    seen_closed (frozen f) = frozen (frozen_closed f)
    seen_closed {c} {x} (under v at e k) = under v at (other x (child_other x v at e) ∙ e) (seen_closed k)

    loose_other : (x j l : ℕ) → w.stands x ≡ Loose j l → u ≡ x → ⊥
    loose_other x j l e is = let o = ajar in let at = ap w.stands is in cc

    pub over_closed : (j : ℕ) {x l : ℕ} → Over w j x l → Over (standing w u s) j x l
    over_closed j {x} {l} (over_loose e) = over_loose (other x (loose_other x j l e) ∙ e)
    over_closed j {x} {l} (over_slot h t e) = over_slot h t (other x (held_other x (InSlot j h t l) e) ∙ e)
    over_closed j {x} (over_own a k e t) = over_own a k (other x (held_other x (InField a k) e) ∙ e) t
    over_closed j {x} (over_field a k e t o) = over_field a k (other x (held_other x (InField a k) e) ∙ e) t (over_closed j o)
    over_closed j {x} (over_part v at e y t) = over_part v at (other x (child_other x v at e) ∙ e) y t
    over_closed j {x} (over_child v at e y t o) = over_child v at (other x (child_other x v at e) ∙ e) y t (over_closed j o)

    -- ---- places

    fits_in : (p : Place) (f : Form) (q : ℕ) → FitsIn w p f q → FitsIn (standing w u s) p f q
    fits_in p form.IsoE q e = other q (held_other q p e) ∙ e
    fits_in p form.TrnE q e = other q (child_other q (home w p) (Some p) e) ∙ e ∙ ap (λ (c : ℕ). Child c (Some p)) (sym (home_standing w u s p))
    fits_in p form.Iso q e = tt
    fits_in p form.Trn q e = subst (λ (c : ℕ). Seen (standing w u s) c q) (sym (home_standing w u s p)) (seen_closed e)
    fits_in p form.Ref q e = e ∙ sym (home_standing w u s p)
    fits_in p form.Val q e = frozen_closed e
    fits_in p form.Box q e = subst (λ (c : ℕ). Seen (standing w u s) c q) (sym (home_standing w u s p)) (seen_closed e)
    fits_in p form.Tag q e = tt

    pub fits_closed : (p : Place) (f : Form) (v : Value) → Fits w p f v → Fits (standing w u s) p f v
    fits_closed p f (At a) e = fits_in p f (w.region a) e
    fits_closed p f (Num n) e = tt
    fits_closed p f (Truth t) e = tt
    fits_closed p f (Text t) e = tt
    fits_closed p f (Prim n) e = tt

    not_child : (q : ℕ) → (u ≡ q → ⊥) → ((v : ℕ) (at : Option Place) → w.stands q ≡ Child v at → ⊥) → (v : ℕ) (at : Option Place) → (standing w u s).stands q ≡ Child v at → ⊥
    not_child q n none v at e = none v at (sym (other q n) ∙ e)

    over_not : (j : ℕ) {x l : ℕ} → Over w j x l → u ≡ x → ⊥
    over_not j {x} {l} (over_loose e) is = loose_other x j l e is
    over_not j {x} {l} (over_slot h t e) is = held_other x (InSlot j h t l) e is
    over_not j {x} (over_own a k e t) is = held_other x (InField a k) e is
    over_not j {x} (over_field a k e t o) is = held_other x (InField a k) e is
    over_not j {x} (over_part v at e y t) is = child_other x v at e is
    over_not j {x} (over_child v at e y t o) is = child_other x v at e is

    alias_in : (j c k : ℕ) (f : Form) (q : ℕ) → AliasIn w j c k f q → AliasIn (standing w u s) j c k f q
    alias_in j c k form.Iso q a = (a.0, not_child q (over_not j a.5) a.1, a.2, a.3, a.4, over_closed j a.5)
    alias_in j c k form.Trn q a = (a.0, a.1, other q (child_other q (w.context j k) a.1 a.2) ∙ a.2, a.3)
    alias_in j c k form.IsoE q a = tt
    alias_in j c k form.TrnE q a = tt
    alias_in j c k form.Ref q a = tt
    alias_in j c k form.Val q a = tt
    alias_in j c k form.Box q a = tt
    alias_in j c k form.Tag q a = tt

    alias_closed : (j c k : ℕ) (f : Form) (v : Value) → Alias w j c k f v → Alias (standing w u s) j c k f v
    alias_closed j c k f (At a) e = alias_in j c k f (w.region a) e
    alias_closed j c k f (Num m) e = tt
    alias_closed j c k f (Truth t) e = tt
    alias_closed j c k f (Text t) e = tt
    alias_closed j c k f (Prim m) e = tt

    -- ---- the world

    context_other : (j l : ℕ) → j < count → l ≤ w.top j → u ≡ w.context j l → ⊥
    context_other j l there t is = none-some (j, l) (sym bare ∙ ap w.role is ∙ ok.named j l there t)

    pub opened_closed : (j l : ℕ) → j < count → l ≤ w.top j → w.stands (w.context j l) ≡ Opened j → (standing w u s).stands (w.context j l) ≡ Opened j
    opened_closed j l there t e = other (w.context j l) (context_other j l there t) ∙ e

    opened_other : (j x : ℕ) → i ≢ j → w.stands x ≡ Opened j → (standing w u s).stands x ≡ Opened j
    opened_other j x n e = other x (λ is. n (same_actor (sym ajar ∙ ap w.stands is ∙ e))) ∙ e
      where
        same_actor : Opened i ≡ Opened j → i ≡ j
        same_actor is = cc

    used_closed : (x : ℕ) → (w.stands x ≡ Unused → ⊥) → (standing w u s).stands x ≡ Unused → ⊥
    used_closed x used e =
        elim (cases_eq u x) [
          | inl is ↦ alive (sym (stand_here w.stands u s) ∙ ap (standing w u s).stands is ∙ e)
          | inr n ↦ used (sym (other x n) ∙ e)
        ]

    not_empty : (x : ℕ) → w.stands x ≡ Unused → u ≡ x → ⊥
    not_empty x e is = let bad : Unused ≡ Opened i = sym e ∙ ap w.stands (sym is) ∙ ajar in cc

    world_closed : WorldOk (standing w u s) objects count
    world_closed = record {
      zero = ok.zero;
      named = ok.named;
      roles = ok.roles;
      root = λ j there. opened_closed j 0 there (omega arith) (ok.root j there);
      own = ok.own;
      contexts = λ j l there t.
          elim (ok.contexts j l there t) [
            | inl e ↦ inl (opened_closed j l there t e)
            | inr o ↦ inr (o.0, o.1, over_closed j o.2)
          ];
      unused = λ q more. (other q (λ is. let at = (ok.unused q more).0 in let o = ajar in let g = ap w.stands is in absurd (cc)) ∙ (ok.unused q more).0, (ok.unused q more).1);
      regions = ok.regions;
      parents = λ q v at e.
          elim (cases_eq u q) [
            | inl is ↦ parent v at (sym (stand_here w.stands u s) ∙ ap (standing w u s).stands is ∙ e)
            | inr n ↦ ok.parents q v at (sym (other q n) ∙ e)
          ];
      holders = λ q a k e.
          elim (cases_eq u q) [
            | inl is ↦ holder a k (sym (stand_here w.stands u s) ∙ ap (standing w u s).stands is ∙ e)
            | inr n ↦ ok.holders q a k (sym (other q n) ∙ e)
          ];
      absent = λ a e. other (w.region a) (not_empty (w.region a) (ok.absent a e)) ∙ ok.absent a e;
      present = λ a o e x. used_closed (w.region a) (ok.present a o e) x;
      homes = λ j l there x. used_closed (w.context j l) (ok.homes j l there) x;
    }

    pub closed_shifts : (b : ℕ) (gone : Place → Bool) → b ≤ w.top i → Shifts w (standing w u s) objects count i b gone
    closed_shifts b gone high = record {
      world = world_closed;
      fits = λ p f v n e. fits_closed p f v e;
      sent = λ j. refl;
      top = λ j n. refl;
      context = λ l n. refl;
      contexts = λ j l there n k. refl;
      opened = λ j l n e. go j l n e;
      alias = λ j c f v there n a. alias_closed j c (w.top j) f v a;
      over = λ j m l there n o. over_closed j o;
      low = λ m l n k o. over_closed i o;
    }
      where
        go : (j l : ℕ) → (i ≢ j) ⊎ (l ≤ b) → w.stands (w.context j l) ≡ Opened j → (standing w u s).stands (w.context j l) ≡ Opened j
        go j l (inl n) e = opened_other j (w.context j l) n e
        go j l (inr low) e =
            elim (cases_eq i j) [
              | inl is ↦ opened_closed j l (subst (λ (k : ℕ). k < count) is here) (subst (λ (k : ℕ). l ≤ w.top k) is (omega (arith, low, high))) e
              | inr n ↦ opened_other j (w.context j l) n e
            ]
