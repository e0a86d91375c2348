-- Slots that have the type that is written for them, one after the other.
use Rattle.std.specs.Prelude.{◌≡◌, ℕ, ◌+◌, ◌<◌, ◌≤◌, List, length, Some, get_or, slice_get}
use Rattle.std.proofs.{Common.{inl, inr, ap, sym, subst, ◌∙◌, arith}, lemmas.Bool.cases_lt, lemmas.Option.{same_Some, slice_get-get_or}}
use Rattle.pc_base.proofs.Gets.{get_below}
use Rattle.pc_core.specs.{declared.nodes.Slot.Slot, CoreData.CoreData}
use Rattle.pc_ann.specs.declared.annotation.Ann.{Ann}
use Rattle.pc_valid.specs.Valid.{KeepsWritten}
use Rattle.pc_judge.specs.Faults as spec

-- The slots before this one have their types.
abbrev pub KeptBefore : CoreData → Ann → ℕ → Type 0
KeptBefore core ann i = (j : ℕ) (y : Slot) → j < i → slice_get core.slots j ≡ Some y → spec.KeepsType ann j y

-- The slot of this iteration.
turn : (core : CoreData) (ys : List Slot) (i : ℕ) (d : Slot) → ys ≡ core.slots → i < length ys → slice_get core.slots i ≡ Some (get_or ys i d)
turn core ys i d same l = subst (λ zs. slice_get zs i ≡ Some (get_or ys i d)) same (slice_get-get_or ys i d l)

pub first_wrong : (core : CoreData) (ann : Ann) (ys : List Slot) (n i : ℕ) (d : Slot) → ys ≡ core.slots → i < length ys → n ≡ i → KeptBefore core ann i → (spec.KeepsType ann n (get_or ys i d) → ⊥) → spec.FirstWrong core ann n
first_wrong core ann ys n i d same l at kept wrong = (
  get_or ys i d,
  (ap (slice_get core.slots) at ∙ turn core ys i d same l, wrong, λ j y m. kept j y (omega (arith, m, at))),
)

pub kept_next : (core : CoreData) (ann : Ann) (ys : List Slot) (n i : ℕ) (d : Slot) → ys ≡ core.slots → i < length ys → n ≡ i → KeptBefore core ann i → spec.KeepsType ann n (get_or ys i d) → KeptBefore core ann (i + 1)
kept_next core ann ys n i d same l at kept keeps j y m g =
    elim (cases_lt j i) [
      | inl k ↦ kept j y k g
      | inr k ↦ let here : n ≡ j = omega (arith, at, m, k) in
          let there : i ≡ j = omega (arith, m, k) in
          let it : get_or ys i d ≡ y = same_Some (get_or ys i d) y (sym (turn core ys i d same l) ∙ ap (slice_get core.slots) there ∙ g) in
          subst (λ (z : Slot). spec.KeepsType ann j z) it (subst (λ k. spec.KeepsType ann k (get_or ys i d)) here keeps)
    ]

pub kept_all : (core : CoreData) (ann : Ann) (ys : List Slot) (i : ℕ) → ys ≡ core.slots → length ys ≤ i → KeptBefore core ann i → KeepsWritten core ann
kept_all core ann ys i same l kept j y g =
    let k = get_below core.slots j y g in
    let count : length ys ≡ length core.slots = ap (λ (zs : List Slot). length zs) same in
    kept j y (omega (arith, k, count, l)) g
