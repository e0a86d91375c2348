-- The region of an object that is read or written is not one that a field of that object holds.
use Rattle.std.specs.Prelude.{◌≡◌, ◌⊎◌, ℕ, ◌+◌, ◌<◌, Option, Some, None, refl}
use Rattle.std.proofs.{Common.{inl, inr, ap, sym, subst, ◌∙◌, arith}, lemmas.Option.{same_Some, none-some}}
use Rattle.pc_heap.specs.{Objects.ObjectMap, declared.value.Address.Address}
use Rattle.pc_caps.specs.declared.capability.Form.{Form}
use Rattle.pc_caps.specs.declared.capability.Form.TheVariants as form
use Rattle.pc_regions.proofs.World.{Place, OnStack, InField, Opened, Held, Child, World, Over, over_loose, over_slot, over_own, over_field, over_part, over_child, FitsIn, AliasIn, WorldOk}

module _ (w : World) (a : Address) (j : ℕ) where
  abbrev r : ℕ
  r = w.region a

  -- Held by a field of its own object, or a child of itself.
  abbrev Own : ℕ → Type 0
  Own q = (w.stands q ≡ Held (InField a j)) ⊎ (w.stands q ≡ Child r (Some (InField a j)))

  -- Such a region, which is not a context, has no level over it.
  no_level : (i l : ℕ) {q : ℕ} → q ≡ r → Own q → w.role r ≡ None → Over w i q l → ⊥
  no_level i l is (inl e) t (over_loose f) = cc
  no_level i l is (inl e) t (over_slot h s f) = cc
  no_level i l is (inl e) t (over_own c k f u) = let same : c ≡ a = cc in none-some (i, l) (sym t ∙ ap w.role (ap w.region (sym same)) ∙ u)
  no_level i l is (inl e) t (over_field c k f u o) = let same : c ≡ a = cc in no_level i l (ap w.region same) (inl (ap w.stands (ap w.region same ∙ sym is) ∙ e)) t o
  no_level i l is (inl e) t (over_part u at f s p) = cc
  no_level i l is (inl e) t (over_child u at f s p o) = cc
  no_level i l is (inr e) t (over_loose f) = cc
  no_level i l is (inr e) t (over_slot h s f) = cc
  no_level i l is (inr e) t (over_own c k f u) = cc
  no_level i l is (inr e) t (over_field c k f u o) = cc
  no_level i l is (inr e) t (over_part u at f s p) = let same : u ≡ r = cc in none-some (i, l) (sym t ∙ ap w.role (sym same) ∙ p)
  no_level i l is (inr e) t (over_child u at f s p o) = let same : u ≡ r = cc in no_level i l same (inr (ap w.stands (same ∙ sym is) ∙ e)) t o

  level_is : (x i n l : ℕ) → w.role x ≡ Some (i, n) → w.role x ≡ Some (i, l) → n ≡ l
  level_is x i n l e f = ap (λ (p : ℕ × ℕ). p.1) (same_Some (i, n) (i, l) (sym e ∙ f))

  -- The only level over a context that is held like this is its own.
  own_level : (i n l : ℕ) {q : ℕ} → Own q → w.role r ≡ Some (i, n) → Over w i q l → n ≡ l
  own_level i n l (inl e) t (over_loose f) = absurd (cc)
  own_level i n l (inl e) t (over_slot h s f) = absurd (cc)
  own_level i n l (inl e) t (over_own c k f u) = let same : c ≡ a = cc in level_is r i n l t (ap w.role (ap w.region (sym same)) ∙ u)
  own_level i n l (inl e) t (over_field c k f u o) = let same : c ≡ a = cc in absurd (none-some (i, n) (sym u ∙ ap w.role (ap w.region same) ∙ t))
  own_level i n l (inl e) t (over_part u at f s p) = absurd (cc)
  own_level i n l (inl e) t (over_child u at f s p o) = absurd (cc)
  own_level i n l (inr e) t (over_loose f) = absurd (cc)
  own_level i n l (inr e) t (over_slot h s f) = absurd (cc)
  own_level i n l (inr e) t (over_own c k f u) = absurd (cc)
  own_level i n l (inr e) t (over_field c k f u o) = absurd (cc)
  own_level i n l (inr e) t (over_part u at f s p) = let same : u ≡ r = cc in level_is r i n l t (ap w.role (sym same) ∙ p)
  own_level i n l (inr e) t (over_child u at f s p o) = let same : u ≡ r = cc in absurd (none-some (i, n) (sym p ∙ ap w.role same ∙ t))

  module _ (objects : ObjectMap) (count i base d : ℕ) (ok : WorldOk w objects count) (here : i < count) (top : w.top i ≡ base + d) (h n : ℕ) where
    is_last : w.role (w.context i (base + d)) ≡ Some (i, base + d)
    is_last = ok.named i (base + d) here (omega (arith, top))

    not_open : (q : ℕ) → Own q → w.stands q ≡ Opened i → ⊥
    not_open q (inl e) f = cc
    not_open q (inr e) f = cc

    not_part : (at : Option Place) → Own r → w.stands r ≡ Child (w.context i (base + d)) at → w.role r ≡ None → ⊥
    not_part at (inl e) f t = cc
    not_part at (inr e) f t = let same : r ≡ w.context i (base + d) = cc in none-some (i, base + d) (sym t ∙ ap w.role same ∙ is_last)

    not_self : (o : Form) → (o ≡ form.Iso) ⊎ ((o ≡ form.Trn) ⊎ (o ≡ form.Ref)) → FitsIn w (OnStack i h n (base + d)) o r → AliasIn w i base (base + d) o r → Own r → ⊥
    not_self form.Iso x f al own = no_level i al.2 refl own al.0 al.5
    not_self form.Trn x f al own = not_part al.1 own al.2 al.0
    not_self form.Ref x f al own =
        elim (ok.contexts i (base + d) here (omega (arith, top))) [
          | inl e ↦ not_open r own (ap w.stands f ∙ e)
          | inr k ↦ let l : ℕ = k.0 in let low = k.1 in
              let same : base + d ≡ l = own_level i (base + d) l own (ap w.role f ∙ is_last) (subst (λ (y : ℕ). Over w i y l) (sym f) k.2) in
              omega (arith, low, same)
        ]
    not_self o x f al own = elim x [ inl e ↦ cc | inr y ↦ elim y [ inl e ↦ cc | inr e ↦ cc ] ]

    -- The origin's region is not the one that is taken from its field.
    pub origin_apart : (o : Form) (q : ℕ) → (o ≡ form.Iso) ⊎ ((o ≡ form.Trn) ⊎ (o ≡ form.Ref)) → FitsIn w (OnStack i h n (base + d)) o r → AliasIn w i base (base + d) o r
        → (w.stands q ≡ Held (InField a j)) ⊎ (w.stands q ≡ Child r (Some (InField a j))) → q ≡ r → ⊥
    origin_apart o q x f al own is = not_self o x f al (subst Own is own)
