-- What is given up by a field that is written, through an alias of its object.
use Rattle.std.specs.Prelude.{◌≡◌, ◌⊎◌, ℕ, ◌+◌, ◌<◌, ◌≤◌, Some, refl}
use Rattle.std.proofs.{Common.{inl, inr, ap, sym, subst, ◌∙◌, arith}, lemmas.Option.{same_Some, none-some}}
use Rattle.pc_heap.specs.{Objects.ObjectMap, declared.value.Address.Address}
use Rattle.pc_caps.specs.{Tables.{unalias, view, taken}, declared.capability.Cap.Cap, declared.capability.Form.Form}
use Rattle.pc_caps.specs.declared.capability.Cap.TheVariants as cap
use Rattle.pc_caps.specs.declared.capability.Form.TheVariants as form
use Rattle.pc_regions.proofs.{World.{OnStack, InField, Child, World, Over, over_own, over_field, over_part, FitsIn, AliasIn, WorldOk}, OneHolder.over_is_of, StandsOtherwise.one_level, Taken.{FreeIn, Takes}}

-- What is neither an `iso^` nor a `trn^` is given up as it is seen.
pub taken_views : (o g : Form) (c : Cap) → taken o c ≡ Some g → (g ≡ form.IsoE → ⊥) → (g ≡ form.TrnE → ⊥) → view o c ≡ Some g
taken_views form.IsoE g cap.Iso is a b = absurd (a (sym (same_Some form.IsoE g is)))
taken_views form.Iso g cap.Iso is a b = absurd (a (sym (same_Some form.IsoE g is)))
taken_views form.TrnE g cap.Iso is a b = absurd (a (sym (same_Some form.IsoE g is)))
taken_views form.Trn g cap.Iso is a b = absurd (a (sym (same_Some form.IsoE g is)))
taken_views form.Ref g cap.Iso is a b = absurd (a (sym (same_Some form.IsoE g is)))
taken_views form.Ref g cap.Trn is a b = absurd (b (sym (same_Some form.TrnE g is)))
taken_views form.IsoE g cap.Trn is a b = is
taken_views form.Iso g cap.Trn is a b = is
taken_views form.TrnE g cap.Trn is a b = is
taken_views form.Trn g cap.Trn is a b = is
taken_views form.IsoE g cap.Ref is a b = is
taken_views form.Iso g cap.Ref is a b = is
taken_views form.TrnE g cap.Ref is a b = is
taken_views form.Trn g cap.Ref is a b = is
taken_views form.Ref g cap.Ref is a b = is
taken_views form.IsoE g cap.Val is a b = is
taken_views form.Iso g cap.Val is a b = is
taken_views form.TrnE g cap.Val is a b = is
taken_views form.Trn g cap.Val is a b = is
taken_views form.Ref g cap.Val is a b = is
taken_views form.IsoE g cap.Box is a b = is
taken_views form.Iso g cap.Box is a b = is
taken_views form.TrnE g cap.Box is a b = is
taken_views form.Trn g cap.Box is a b = is
taken_views form.Ref g cap.Box is a b = is
taken_views form.IsoE g cap.Tag is a b = is
taken_views form.Iso g cap.Tag is a b = is
taken_views form.TrnE g cap.Tag is a b = is
taken_views form.Trn g cap.Tag is a b = is
taken_views form.Ref g cap.Tag is a b = is
taken_views form.Val g c is a b = absurd (none-some g is)
taken_views form.Box g c is a b = absurd (none-some g is)
taken_views form.Tag g c is a b = absurd (none-some g is)

module _ (w : World) (objects : ObjectMap) (count i base d : ℕ) (ok : WorldOk w objects count) (here : i < count) (top : w.top i ≡ base + d) (h n : ℕ) (a : Address) (j : ℕ) where
  abbrev r : ℕ
  r = w.region a

  abbrev context : ℕ
  context = w.context i (base + d)

  is_last : w.role context ≡ Some (i, base + d)
  is_last = ok.named i (base + d) here (omega (arith, top))

  free_by : (q l : ℕ) → Over w i q l → base ≤ l → FreeIn w i base q
  free_by q l o least = (over_is_of w objects count ok i here o, λ m low k. let same = one_level w i m o k in omega (arith, same, low, least))

  abbrev Given : Form → Cap → ℕ → Type 0
  Given g c q = (unalias c ≡ g) × FreeIn w i base q × Takes w (InField a j) g (OnStack i h n (base + d))

  not_given : {T : Type 0} → (f g : Form) → f ≡ g → (f ≡ form.IsoE → ⊥) → (f ≡ form.TrnE → ⊥) → (g ≡ form.IsoE) ⊎ (g ≡ form.TrnE) → T
  not_given f g is x y (inl e) = absurd (x (is ∙ e))
  not_given f g is x y (inr e) = absurd (y (is ∙ e))

  iso_given : (q l : ℕ) (g : Form) → form.IsoE ≡ g → Over w i q l → base ≤ l → Given g cap.Iso q
  iso_given q l g is o least = subst (λ (f : Form). Given f cap.Iso q) is (refl, free_by q l o least, tt)

  trn_given : (q : ℕ) (g : Form) → form.TrnE ≡ g → r ≡ context → w.stands q ≡ Child r (Some (InField a j)) → Given g cap.Trn q
  trn_given q g is o e =
      let at : w.stands q ≡ Child context (Some (InField a j)) = e ∙ ap (λ (u : ℕ). Child u (Some (InField a j))) o in
      subst (λ (f : Form). Given f cap.Trn q) is (refl, free_by q (base + d) (over_part context (Some (InField a j)) at refl is_last) (omega arith), sym o)

  -- What a field holds is free to be taken, through an origin that gives it up.
  pub field_free : (o g : Form) (c : Cap) (q : ℕ) → taken o c ≡ Some g → (g ≡ form.IsoE) ⊎ (g ≡ form.TrnE) → (o ≡ form.IsoE → ⊥) → (o ≡ form.TrnE → ⊥)
      → FitsIn w (OnStack i h n (base + d)) o r → AliasIn w i base (base + d) o r → FitsIn w (InField a j) (unalias c) q
      → (unalias c ≡ g) × FreeIn w i base q × Takes w (InField a j) g (OnStack i h n (base + d))
  field_free form.IsoE g c q is own no_iso no_trn f al e = absurd (no_iso refl)
  field_free form.TrnE g c q is own no_iso no_trn f al e = absurd (no_trn refl)
  field_free form.Iso g cap.Iso q is own no_iso no_trn f al e = iso_given q al.2 g (same_Some form.IsoE g is) (over_field a j e al.0 al.5) al.3
  field_free form.Trn g cap.Iso q is own no_iso no_trn f al e = iso_given q (base + d) g (same_Some form.IsoE g is) (over_field a j e al.0 (over_part context al.1 al.2 al.3 is_last)) (omega arith)
  field_free form.Ref g cap.Iso q is own no_iso no_trn f al e = iso_given q (base + d) g (same_Some form.IsoE g is) (over_own a j e (ap w.role f ∙ is_last)) (omega arith)
  field_free form.Ref g cap.Trn q is own no_iso no_trn f al e = trn_given q g (same_Some form.TrnE g is) f e
  field_free form.Iso g cap.Trn q is own no_iso no_trn f al e = not_given form.Tag g (same_Some form.Tag g is) (λ x. cc) (λ x. cc) own
  field_free form.Iso g cap.Ref q is own no_iso no_trn f al e = not_given form.Tag g (same_Some form.Tag g is) (λ x. cc) (λ x. cc) own
  field_free form.Iso g cap.Val q is own no_iso no_trn f al e = not_given form.Val g (same_Some form.Val g is) (λ x. cc) (λ x. cc) own
  field_free form.Iso g cap.Box q is own no_iso no_trn f al e = not_given form.Tag g (same_Some form.Tag g is) (λ x. cc) (λ x. cc) own
  field_free form.Iso g cap.Tag q is own no_iso no_trn f al e = not_given form.Tag g (same_Some form.Tag g is) (λ x. cc) (λ x. cc) own
  field_free form.Trn g cap.Trn q is own no_iso no_trn f al e = not_given form.Box g (same_Some form.Box g is) (λ x. cc) (λ x. cc) own
  field_free form.Trn g cap.Ref q is own no_iso no_trn f al e = not_given form.Box g (same_Some form.Box g is) (λ x. cc) (λ x. cc) own
  field_free form.Trn g cap.Val q is own no_iso no_trn f al e = not_given form.Val g (same_Some form.Val g is) (λ x. cc) (λ x. cc) own
  field_free form.Trn g cap.Box q is own no_iso no_trn f al e = not_given form.Box g (same_Some form.Box g is) (λ x. cc) (λ x. cc) own
  field_free form.Trn g cap.Tag q is own no_iso no_trn f al e = not_given form.Tag g (same_Some form.Tag g is) (λ x. cc) (λ x. cc) own
  field_free form.Ref g cap.Ref q is own no_iso no_trn f al e = not_given form.Ref g (same_Some form.Ref g is) (λ x. cc) (λ x. cc) own
  field_free form.Ref g cap.Val q is own no_iso no_trn f al e = not_given form.Val g (same_Some form.Val g is) (λ x. cc) (λ x. cc) own
  field_free form.Ref g cap.Box q is own no_iso no_trn f al e = not_given form.Box g (same_Some form.Box g is) (λ x. cc) (λ x. cc) own
  field_free form.Ref g cap.Tag q is own no_iso no_trn f al e = not_given form.Tag g (same_Some form.Tag g is) (λ x. cc) (λ x. cc) own
  field_free form.Val g c q is own no_iso no_trn f al e = absurd (none-some g is)
  field_free form.Box g c q is own no_iso no_trn f al e = absurd (none-some g is)
  field_free form.Tag g c q is own no_iso no_trn f al e = absurd (none-some g is)
