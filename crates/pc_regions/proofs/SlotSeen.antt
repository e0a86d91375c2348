-- What is read of a slot, by regions: an alias on the stack, and that it may be used.
use Rattle.std.specs.Prelude.{◌≡◌, ◌⊎◌, ℕ, ◌+◌, ◌<◌, ◌≤◌, true, false, Option, Some, None, refl}
use Rattle.std.proofs.Common.{inl, inr, ap, sym, subst, ◌∙◌, arith}
use Rattle.pc_heap.specs.{Objects.ObjectMap, declared.value.Value.Value, declared.value.Value.TheVariants.{Num, Truth, Text, Prim, At}}
use Rattle.pc_caps.specs.{Tables.{plain, unalias, sendable}, declared.capability.Cap.Cap}
use Rattle.pc_caps.specs.declared.capability.Cap.TheVariants as cap
use Rattle.pc_caps.specs.declared.capability.Form.TheVariants as form
use Rattle.pc_base.proofs.Bools.{false_true}
use Rattle.pc_regions.proofs.{World.{Place, InSlot, OnStack, Opened, Held, Child, World, slot, child, Seen, same, under, Over, over_slot, over_part, FitsIn, Fits, AliasIn, Alias, WorldOk}, Fitting.OpenedTo, OneHolder.{one_actor, context_belongs, over_is_of}, StandsOtherwise.one_level, Taken.{FreeIn, Free}}

-- What may not be sent is of the same depth, so it lives with the same context.
pub same_context : (w : World) (i base c d : ℕ) (k : Cap) → (c ≡ d) ⊎ (sendable k ≡ true) → sendable k ≡ false → w.context i (base + c) ≡ w.context i (base + d)
same_context w i base c d k (inl e) bound = ap (λ (l : ℕ). w.context i (base + l)) e
same_context w i base c d k (inr e) bound = absurd (false_true (sym bound ∙ e))

pub held_shut : (w : World) (p : Place) (q : ℕ) → w.stands q ≡ Held p → (j : ℕ) → w.stands q ≡ Opened j → ⊥
held_shut w p q e j g = cc

pub held_no_part : (w : World) (p : Place) (q u : ℕ) (at : Option Place) → w.stands q ≡ Held p → w.stands q ≡ Child u at → ⊥
held_no_part w p q u at e g = cc

pub child_shut : (w : World) (q u : ℕ) (at : Option Place) → w.stands q ≡ Child u at → (j : ℕ) → w.stands q ≡ Opened j → ⊥
child_shut w q u at e j g = cc

module _ (w : World) (objects : ObjectMap) (count i base d : ℕ) (ok : WorldOk w objects count) (here : i < count) (top : w.top i ≡ base + d) (opened : OpenedTo w i base d) where
  -- A region that is not open, and is at a level from that of the frame on, is not a context.
  role_none : (q l : ℕ) (o : Option (ℕ × ℕ)) → w.role q ≡ o → Over w i q l → base ≤ l → ((j : ℕ) → w.stands q ≡ Opened j → ⊥) → o ≡ None
  role_none q l None e over low shut = refl
  role_none q l (Some r) e over low shut =
      let x = ok.roles q r.0 r.1 e in
      absurd (elim (ok.contexts r.0 r.1 x.0 x.1) [
        | inl e2 ↦ shut r.0 (ap w.stands (sym x.2) ∙ e2)
        | inr o ↦
            let there : Over w r.0 q o.0 = subst (λ (y : ℕ). Over w r.0 y o.0) x.2 o.2 in
            let is : i ≡ r.0 = one_actor w r.0 (over_is_of w objects count ok i here over) (over_is_of w objects count ok r.0 x.0 there) in
            let level : l ≡ o.0 = one_level w i o.0 over (subst (λ (y : ℕ). Over w y q o.0) (sym is) there) in
            let under_it = o.1 in
            let up : base < r.1 = omega (arith, low, level, under_it) in
            let within : r.1 ≤ w.top i = subst (λ (y : ℕ). r.1 ≤ w.top y) (sym is) x.1 in
            let ajar = opened r.1 up (omega (arith, within, top)) in
            shut i (ap w.stands (sym x.2 ∙ ap (λ (y : ℕ). w.context y r.1) (sym is)) ∙ ajar)
      ])

  pub no_role : (q l : ℕ) → Over w i q l → base ≤ l → ((j : ℕ) → w.stands q ≡ Opened j → ⊥) → w.role q ≡ None
  no_role q l over low shut = role_none q l (w.role q) refl over low shut

  -- ---- a slot of the frame, at depth c

  module _ (h s n c : ℕ) (outer : c ≤ d) where
    is_context : w.role (w.context i (base + c)) ≡ Some (i, base + c)
    is_context = ok.named i (base + c) here (omega (arith, outer, top))

    slot_over : (q : ℕ) → w.stands q ≡ Held (InSlot i h s (base + c)) → Over w i q (base + c)
    slot_over q e = over_slot h s e

    child_over : (q : ℕ) → w.stands q ≡ Child (w.context i (base + c)) (Some (InSlot i h s (base + c))) → Over w i q (base + c)
    child_over q e = over_part (w.context i (base + c)) (Some (InSlot i h s (base + c))) e refl is_context

    read_in : (k : Cap) (q : ℕ) → (c ≡ d) ⊎ (sendable k ≡ true) → FitsIn w (InSlot i h s (base + c)) (unalias k) q → FitsIn w (OnStack i h n (base + d)) (plain k) q × AliasIn w i base (base + d) (plain k) q
    read_in cap.Iso q near e = (tt, (no_role q (base + c) (slot_over q e) (omega arith) (held_shut w (InSlot i h s (base + c)) q e), λ u at g. held_no_part w (InSlot i h s (base + c)) q u at e g, base + c, omega arith, omega (arith, outer), slot_over q e))
    read_in cap.Trn q near e =
        let is = same_context w i base c d cap.Trn near refl in (
          under (w.context i (base + c)) (Some (InSlot i h s (base + c))) e (same is),
          (no_role q (base + c) (child_over q e) (omega arith) (child_shut w q (w.context i (base + c)) (Some (InSlot i h s (base + c))) e), Some (InSlot i h s (base + c)), e ∙ ap (λ (u : ℕ). Child u (Some (InSlot i h s (base + c)))) is, refl),
        )
    read_in cap.Ref q near e = (e ∙ same_context w i base c d cap.Ref near refl, tt)
    read_in cap.Val q near e = (e, tt)
    read_in cap.Box q near e = (subst (λ (u : ℕ). Seen w u q) (same_context w i base c d cap.Box near refl) e, tt)
    read_in cap.Tag q near e = (tt, tt)

    -- What is read of the slot in the plain form of its capability.
    pub slot_read : (k : Cap) (v : Value) → (c ≡ d) ⊎ (sendable k ≡ true) → Fits w (InSlot i h s (base + c)) (unalias k) v → Fits w (OnStack i h n (base + d)) (plain k) v × Alias w i base (base + d) (plain k) v
    slot_read k (At a) near e = read_in k (w.region a) near e
    slot_read k (Num m) near e = (tt, tt)
    slot_read k (Truth b) near e = (tt, tt)
    slot_read k (Text t) near e = (tt, tt)
    slot_read k (Prim p) near e = (tt, tt)

    -- What the slot alone holds is free to be taken.
    held_free : (q : ℕ) → w.stands q ≡ Held (InSlot i h s (base + c)) → FreeIn w i base q
    held_free q e = (slot h s (base + c) e, λ l low o. let is = one_level w i l (slot_over q e) o in absurd (omega (arith, is, low)))

    child_free : (q : ℕ) → w.stands q ≡ Child (w.context i (base + c)) (Some (InSlot i h s (base + c))) → FreeIn w i base q
    child_free q e = (
      child (w.context i (base + c)) (Some (InSlot i h s (base + c))) e (context_belongs w objects count ok i here (base + c) (omega (arith, outer, top))),
      λ l low o. let is = one_level w i l (child_over q e) o in absurd (omega (arith, is, low)),
    )

    pub iso_free : (v : Value) → Fits w (InSlot i h s (base + c)) form.IsoE v → Free w i base v
    iso_free (At a) e = held_free (w.region a) e
    iso_free (Num m) e = tt
    iso_free (Truth b) e = tt
    iso_free (Text t) e = tt
    iso_free (Prim p) e = tt

    pub trn_free : (v : Value) → Fits w (InSlot i h s (base + c)) form.TrnE v → Free w i base v
    trn_free (At a) e = child_free (w.region a) e
    trn_free (Num m) e = tt
    trn_free (Truth b) e = tt
    trn_free (Text t) e = tt
    trn_free (Prim p) e = tt
