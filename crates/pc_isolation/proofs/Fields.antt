-- Where fields lead, by regions: what is inside an object that a waiting argument holds is held by that argument, and what is seen
-- from it is held by it or frozen.
use Rattle.std.specs.Prelude.{◌≡◌, ℕ, Bool, true, Option, Some, None, slice_get}
use Rattle.std.proofs.{Common.{inl, inr, ap, sym, subst, ◌∙◌}, lemmas.Option.{same_Some, none-some}}
use Rattle.pc_heap.specs.{Objects.{ObjectMap, class_at, Object}, Parts.{field_in, value_in}, declared.value.Address.Address, declared.value.Value.Value, declared.value.Value.TheVariants.At}
use Rattle.pc_caps.specs.{Tables.unalias, declared.capability.Cap.Cap}
use Rattle.pc_caps.specs.declared.capability.Cap.TheVariants as cap
use Rattle.pc_core.specs.CoreData.{CoreData}
use Rattle.pc_base.proofs.{Bools.false_true, Options.bind_some}
use Rattle.pc_types.proofs.Growth.{object_of}
use Rattle.pc_regions.proofs.{World.{InField, World, Frozen, in_ice, under_ice, FitsIn}, Fitting.FieldsFit}
use Rattle.pc_isolation.specs.Isolated.{FieldLeads, keeps, shows, FieldsReach, itself, further}
use Rattle.pc_isolation.proofs.Mailed.{Mailed, in_it, part, Shown, seen_cold, seen_shown, mailed_is_warm, holder_mailed, parent_mailed, seer_mailed}

-- ---- one field

module _ (w : World) (o : Address) (n r : ℕ) where
  -- A field that keeps what it holds.
  kept_mailed : (j t k : ℕ) (q : Cap) → keeps q ≡ true → FitsIn w (InField o n) (unalias q) r → Mailed w j t k (w.region o) → Mailed w j t k r
  kept_mailed j t k cap.Iso e fit m = in_it o n fit m
  kept_mailed j t k cap.Trn e fit m = part (w.region o) _ fit m
  kept_mailed j t k cap.Ref e fit m = subst (Mailed w j t k) (sym fit) m
  kept_mailed j t k cap.Val e fit m = absurd (false_true e)
  kept_mailed j t k cap.Box e fit m = absurd (false_true e)
  kept_mailed j t k cap.Tag e fit m = absurd (false_true e)

  -- A field of what is frozen.
  field_cold : (q : Cap) → shows q ≡ true → FitsIn w (InField o n) (unalias q) r → Frozen w (w.region o) → Frozen w r
  field_cold cap.Iso e fit f = in_ice o n fit f
  field_cold cap.Trn e fit f = under_ice (w.region o) _ fit f
  field_cold cap.Ref e fit f = subst (Frozen w) (sym fit) f
  field_cold cap.Val e fit f = fit
  field_cold cap.Box e fit f = seen_cold w f fit
  field_cold cap.Tag e fit f = absurd (false_true e)

  -- A field of what is held.
  field_mailed : (j t k : ℕ) (q : Cap) → shows q ≡ true → FitsIn w (InField o n) (unalias q) r → Mailed w j t k (w.region o) → Shown w j t k r
  field_mailed j t k cap.Iso e fit m = inl (in_it o n fit m)
  field_mailed j t k cap.Trn e fit m = inl (part (w.region o) _ fit m)
  field_mailed j t k cap.Ref e fit m = inl (subst (Mailed w j t k) (sym fit) m)
  field_mailed j t k cap.Val e fit m = inr fit
  field_mailed j t k cap.Box e fit m = seen_shown w m fit
  field_mailed j t k cap.Tag e fit m = absurd (false_true e)

  field_shown : (j t k : ℕ) (q : Cap) → shows q ≡ true → FitsIn w (InField o n) (unalias q) r → Shown w j t k (w.region o) → Shown w j t k r
  field_shown j t k q e fit (inl m) = field_mailed j t k q e fit m
  field_shown j t k q e fit (inr f) = inr (field_cold q e fit f)

  -- A field that shows what the argument holds: its object is held by it too.
  shown_behind : (j t k : ℕ) (q : Cap) → shows q ≡ true → FitsIn w (InField o n) (unalias q) r → Mailed w j t k r → Mailed w j t k (w.region o)
  shown_behind j t k cap.Iso e fit m = holder_mailed w o n fit m
  shown_behind j t k cap.Trn e fit m = parent_mailed w (w.region o) _ fit m
  shown_behind j t k cap.Ref e fit m = subst (Mailed w j t k) fit m
  shown_behind j t k cap.Val e fit m = absurd (mailed_is_warm w m fit)
  shown_behind j t k cap.Box e fit m = seer_mailed w fit m
  shown_behind j t k cap.Tag e fit m = absurd (false_true e)

-- ---- chains of fields

value_there : (o : Option (Option Value)) (v : Value) → value_in o ≡ Some v → o ≡ Some (Some v)
value_there None v e = absurd (none-some v e)
value_there (Some o) v e = ap Some e

module _ (core : CoreData) (w : World) (objects : ObjectMap) (fields : FieldsFit core w objects) where
  -- What a field leads to fits there.
  pub led : (q : Cap) (a b : Address) (l : FieldLeads core objects q a b) → FitsIn w (InField a l.place) (unalias q) (w.region b)
  led q a b l =
      let number = bind_some (class_at objects a) _ q l.declared in
      let entity = bind_some (slice_get core.entities number.0) _ q number.2 in
      let field = bind_some (slice_get entity.0.fields l.place) _ q entity.2 in
      let object = object_of objects a number.0 number.1 in
      let here : slice_get core.entities object.0.entity ≡ Some entity.0 = ap (slice_get core.entities) object.2 ∙ entity.1 in
      let value : slice_get object.0.fields l.place ≡ Some (Some (At b)) = value_there (slice_get object.0.fields l.place) (At b) (sym (ap (λ (o : Option Object). value_in (field_in o l.place)) object.1) ∙ l.holds) in
      subst (λ (p : Cap). FitsIn w (InField a l.place) (unalias p) (w.region b)) (same_Some field.0.cap q field.2)
      (fields a object.0 entity.0 l.place field.0 (At b) object.1 here field.1 value)

  -- If no field of an allowed capability leads out of these regions, nothing that is reached from one is in another.
  pub reached : (P : ℕ → Type 0) (allowed : Cap → Bool)
      → ((o : Address) (n r : ℕ) (q : Cap) → allowed q ≡ true → FitsIn w (InField o n) (unalias q) r → P (w.region o) → P r)
      → (a b : Address) → P (w.region a) → FieldsReach core objects allowed a b → P (w.region b)
  reached P allowed next a b p (itself e) = subst (λ (x : Address). P (w.region x)) (sym e) p
  reached P allowed next a b p (further o q x e l) = next o l.place (w.region b) q e (led q o b l) (reached P allowed next a o p x)

  pub inside_mailed : (j t k : ℕ) (a b : Address) → Mailed w j t k (w.region a) → FieldsReach core objects keeps a b → Mailed w j t k (w.region b)
  inside_mailed j t k = reached (Mailed w j t k) keeps (λ o n r q. kept_mailed w o n r j t k q)

  pub seen_shown_from : (j t k : ℕ) (a b : Address) → Shown w j t k (w.region a) → FieldsReach core objects shows a b → Shown w j t k (w.region b)
  seen_shown_from j t k = reached (Shown w j t k) shows (λ o n r q. field_shown w o n r j t k q)

  pub leads_from_mailed : (j t k : ℕ) (a b : Address) → Mailed w j t k (w.region b) → FieldsReach core objects shows a b → Mailed w j t k (w.region a)
  leads_from_mailed j t k a b m (itself e) = subst (λ (x : Address). Mailed w j t k (w.region x)) e m
  leads_from_mailed j t k a b m (further o q x e l) = leads_from_mailed j t k a o (shown_behind w o l.place (w.region b) j t k q e (led q o b l) m) x

  -- Fields lead from what is frozen to what is frozen.
  pub cold_from : (a b : Address) → Frozen w (w.region a) → FieldsReach core objects shows a b → Frozen w (w.region b)
  cold_from = reached (Frozen w) shows (λ o n r q. field_cold w o n r q)
