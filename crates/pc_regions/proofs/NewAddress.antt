-- One address without an object gets an object and a region: those of all other objects are unchanged.
use Rattle.std.specs.{Prelude.{◌≡◌, ◌⊎◌, ℕ, ◌<◌, Bool, cond, Some, None}, FinMap.{get, insert}, Ordering.eq_by_cmp}
use Rattle.std.proofs.{Common.{inl, inr, ap, sym, subst, ◌∙◌}, lemmas.Option.none-some}
use Rattle.pc_heap.proofs.Maps.{addresses_total, tied_own}
use Rattle.pc_heap.specs.{Objects.{address_cmp, ObjectMap, Object}, declared.value.Address.Address}
use Rattle.pc_types.proofs.Heaps.{address_cases, get_after}

abbrev pub with_region : (Address → ℕ) → Address → ℕ → Address → ℕ
with_region f a r b = cond (eq_by_cmp address_cmp b a) r (f b)

pub region_here : (f : Address → ℕ) (a : Address) (r : ℕ) → with_region f a r a ≡ r
region_here f a r = ap (λ (b : Bool). cond b r (f a)) (tied_own addresses_total a)

module _ (objects : ObjectMap) (a : Address) (none : get objects a ≡ None) where
  -- An address that has an object is another one.
  pub region_other : (f : Address → ℕ) (r : ℕ) (b : Address) (o : Object) → get objects b ≡ Some o → with_region f a r b ≡ f b
  region_other f r b o at =
      elim (address_cases b a) [
        | inl p ↦ absurd (none-some o (sym none ∙ ap (get objects) (sym p.0) ∙ at))
        | inr n ↦ ap (λ (t : Bool). cond t r (f b)) n
      ]

  -- An address without an object after the insertion is another one, and had none before.
  pub still_absent : (f : Address → ℕ) (r : ℕ) (new : Object) (b : Address) → get (insert objects a new) b ≡ None → (with_region f a r b ≡ f b) × (get objects b ≡ None)
  still_absent f r new b e =
      elim (address_cases b a) [
        | inl p ↦ absurd (none-some new (sym e ∙ get_after objects a new b ∙ ap (λ (t : Bool). cond t (Some new) (get objects b)) p.1))
        | inr n ↦ (ap (λ (t : Bool). cond t r (f b)) n, sym (get_after objects a new b ∙ ap (λ (t : Bool). cond t (Some new) (get objects b)) n) ∙ e)
      ]

  -- With one, it is this address, or had it before.
  pub present_or : (f : Address → ℕ) (r : ℕ) (new : Object) (b : Address) (o : Object) → get (insert objects a new) b ≡ Some o → (with_region f a r b ≡ r) ⊎ ((with_region f a r b ≡ f b) × (get objects b ≡ Some o))
  present_or f r new b o e =
      elim (address_cases b a) [
        | inl p ↦ inl (ap (λ (t : Bool). cond t r (f b)) p.1)
        | inr n ↦ inr (ap (λ (t : Bool). cond t r (f b)) n, sym (get_after objects a new b ∙ ap (λ (t : Bool). cond t (Some new) (get objects b)) n) ∙ e)
      ]

  -- It is a new one, or unchanged.
  pub region_low : (f : Address → ℕ) (r m : ℕ) (b : Address) → r < m → f b < m → with_region f a r b < m
  region_low f r m b new old =
      elim (address_cases b a) [
        | inl p ↦ subst (λ (x : ℕ). x < m) (sym (ap (λ (t : Bool). cond t r (f b)) p.1)) new
        | inr n ↦ subst (λ (x : ℕ). x < m) (sym (ap (λ (t : Bool). cond t r (f b)) n)) old
      ]
