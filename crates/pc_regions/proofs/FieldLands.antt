-- A value that may be written into a field of an origin is near enough, and the field is where it may land.
use Rattle.std.specs.{Prelude.{◌≡◌, ◌⊎◌, ℕ, ◌+◌, ◌<◌, true, Some}, FinMap.get}
use Rattle.std.proofs.{Common.{inl, inr, ap, sym, subst, ◌∙◌, arith}, lemmas.Bool.and_parts}
use Rattle.pc_heap.specs.{Objects.{ObjectMap, Object}, declared.value.Address.Address}
use Rattle.pc_caps.specs.{Tables.{unalias, enters}, Computed.{fits, may_write}, declared.capability.Cap.Cap, declared.capability.Form.Form}
use Rattle.pc_caps.specs.declared.capability.Cap.TheVariants as cap
use Rattle.pc_caps.specs.declared.capability.Form.TheVariants as form
use Rattle.pc_base.proofs.Bools.{false_true}
use Rattle.pc_regions.proofs.{World.{Place, OnStack, InField, Opened, Held, Child, World, steady, Over, FitsIn, AliasIn, WorldOk}, Settled.{Lands, Near, NearFrom}, StandsOtherwise.none_over_stack, Settling.none_over_part}

module _ (w : World) (objects : ObjectMap) (count i base d : ℕ) (ok : WorldOk w objects count) (here : i < count) (top : w.top i ≡ base + d) (h n : ℕ) (a : Address) (j : ℕ) where
  abbrev r : ℕ
  r = w.region a

  abbrev context : ℕ
  context = w.context i (base + d)

  abbrev place : Place
  place = OnStack i h n (base + d)

  near_up : (c : Cap) (f : Form) → NearFrom w place f (InField a j) → Near w place f (unalias c) (InField a j)
  near_up cap.Iso f k = tt
  near_up cap.Trn f k = k
  near_up cap.Ref f k = k
  near_up cap.Val f k = tt
  near_up cap.Box f k = k
  near_up cap.Tag f k = tt

  near_from : (o f : Form) (c : Cap) → enters o f c ≡ true → (o ≡ form.Iso) ⊎ ((o ≡ form.Trn) ⊎ (o ≡ form.Ref)) → FitsIn w (OnStack i h n (base + d)) o r → AliasIn w i base (base + d) o r → NearFrom w place f (InField a j)
  near_from form.Iso form.IsoE c e x y al = tt
  near_from form.Iso form.Val c e x y al = tt
  near_from form.Iso form.Tag c e x y al = tt
  near_from form.Iso form.Iso c e x y al = tt
  near_from form.Iso form.TrnE c e x y al = absurd (false_true e)
  near_from form.Iso form.Trn c e x y al = absurd (false_true e)
  near_from form.Iso form.Ref c e x y al = absurd (false_true e)
  near_from form.Iso form.Box c e x y al = absurd (false_true e)
  near_from form.Trn form.TrnE c e x y al = inr (al.1, al.2)
  near_from form.Trn form.IsoE c e x y al = tt
  near_from form.Trn form.Val c e x y al = tt
  near_from form.Trn form.Tag c e x y al = tt
  near_from form.Trn form.Iso c e x y al = tt
  near_from form.Trn form.Trn c e x y al = absurd (false_true e)
  near_from form.Trn form.Ref c e x y al = absurd (false_true e)
  near_from form.Trn form.Box c e x y al = absurd (false_true e)
  near_from form.Ref form.TrnE c e x y al = inl y
  near_from form.Ref form.Trn c e x y al = y
  near_from form.Ref form.Ref c e x y al = y
  near_from form.Ref form.Box c e x y al = y
  near_from form.Ref form.IsoE c e x y al = tt
  near_from form.Ref form.Iso c e x y al = tt
  near_from form.Ref form.Val c e x y al = tt
  near_from form.Ref form.Tag c e x y al = tt
  near_from o f c e x y al = absurd (elim x [ inl p ↦ cc | inr q ↦ elim q [ inl p ↦ cc | inr p ↦ cc ] ])

  pub field_near : (o f : Form) (c : Cap) → may_write o f c ≡ true → (o ≡ form.Iso) ⊎ ((o ≡ form.Trn) ⊎ (o ≡ form.Ref)) → FitsIn w (OnStack i h n (base + d)) o r → AliasIn w i base (base + d) o r → Near w (OnStack i h n (base + d)) f (unalias c) (InField a j)
  field_near o f c may x y al = near_up c f (near_from o f c (and_parts (fits f c) (enters o f c) may).1 x y al)

  module _ (m l : ℕ) where
    off_context : (q : ℕ) → q ≡ context → w.stands q ≡ Held (OnStack i h m l) → ⊥
    off_context q is e =
        elim (ok.contexts i (base + d) here (omega (arith, top))) [
          | inl k ↦ let same : w.stands q ≡ Opened i = ap w.stands is ∙ k in cc
          | inr k ↦ none_over_stack w i q k.0 i h m l e (subst (λ (z : ℕ). Over w i z k.0) (sym is) k.2)
        ]

    no_context_part : (q u : ℕ) → q ≡ context → w.stands q ≡ Child u (Some (OnStack i h m l)) → ⊥
    no_context_part q u is e =
        elim (ok.contexts i (base + d) here (omega (arith, top))) [
          | inl k ↦ let same : w.stands q ≡ Opened i = ap w.stands is ∙ k in cc
          | inr k ↦ none_over_part w i q k.0 u i h m l e (subst (λ (z : ℕ). Over w i z k.0) (sym is) k.2)
        ]

    off_stack : (o : Form) → (o ≡ form.Iso) ⊎ ((o ≡ form.Trn) ⊎ (o ≡ form.Ref)) → FitsIn w (OnStack i h n (base + d)) o r → AliasIn w i base (base + d) o r → w.stands r ≡ Held (OnStack i h m l) → ⊥
    off_stack form.Iso x y al e = none_over_stack w i r al.2 i h m l e al.5
    off_stack form.Trn x y al e = let k : w.stands r ≡ Child context al.1 = al.2 in cc
    off_stack form.Ref x y al e = off_context r y e
    off_stack o x y al e = elim x [ inl p ↦ cc | inr q ↦ elim q [ inl p ↦ cc | inr p ↦ cc ] ]

    no_stack_part : (o : Form) → (o ≡ form.Iso) ⊎ ((o ≡ form.Trn) ⊎ (o ≡ form.Ref)) → FitsIn w (OnStack i h n (base + d)) o r → AliasIn w i base (base + d) o r → (u : ℕ) → w.stands r ≡ Child u (Some (OnStack i h m l)) → ⊥
    no_stack_part form.Iso x y al u e = al.1 u (Some (OnStack i h m l)) e
    no_stack_part form.Trn x y al u e = let k : w.stands r ≡ Child context al.1 = al.2 in let is : al.1 ≡ Some (OnStack i h m l) = cc in false_true (sym (ap steady is) ∙ al.3)
    no_stack_part form.Ref x y al u e = no_context_part r u y e
    no_stack_part o x y al u e = elim x [ inl p ↦ cc | inr q ↦ elim q [ inl p ↦ cc | inr p ↦ cc ] ]

    -- The field may take what is at a place of this frame's stack.
    pub field_lands : (o g : Form) (x : Object) → get objects a ≡ Some x → (o ≡ form.Iso) ⊎ ((o ≡ form.Trn) ⊎ (o ≡ form.Ref)) → FitsIn w (OnStack i h n (base + d)) o r → AliasIn w i base (base + d) o r → Lands w objects i (OnStack i h m l) g (InField a j)
    field_lands o g x at is y al = ((x, at), off_stack o is y al, no_stack_part o is y al)
