-- Numbers of a list that were looked at, one by one.
use Rattle.std.specs.Prelude.{◌≡◌, ◌⊎◌, ◌↔◌, ℕ, ◌+◌, ◌<◌, ◌≤◌, List, length, Some, slice_get}
use Rattle.std.proofs.{Common.{inl, inr, sym, ap, ◌∙◌, arith}, lemmas.Option.same_Some}
use Rattle.pc_base.specs.Lists.{Has}
use Rattle.pc_base.proofs.Gets.{get_below}
use Rattle.pc_sub.proofs.Grouping.{split}

-- The number is one of the first n of these.
abbrev pub HasTo : List ℕ → ℕ → ℕ → Type 0
HasTo xs n x = (i : ℕ) × (i < n) × (slice_get xs i ≡ Some x)

pub has_next : (xs : List ℕ) (n y x : ℕ) → slice_get xs n ≡ Some y → HasTo xs (n + 1) x → (HasTo xs n x) ⊎ (x ≡ y)
has_next xs n y x at h = elim (split h.0 n h.1) [ inl less ↦ inl (h.0, less, h.2) | inr last ↦ inr (same_Some x y (sym h.2 ∙ ap (slice_get xs) last ∙ at)) ]

pub has_more : (xs : List ℕ) (n y x : ℕ) → slice_get xs n ≡ Some y → (HasTo xs n x) ⊎ (x ≡ y) → HasTo xs (n + 1) x
has_more xs n y x at h = elim h [ inl less ↦ let l = less.1 in (less.0, omega (arith, l), less.2) | inr last ↦ (n, omega arith, at ∙ ap Some (sym last)) ]

pub has_none : (xs : List ℕ) (x : ℕ) → HasTo xs 0 x → ⊥
has_none xs x h = let l = h.1 in absurd (omega (arith, l))

pub has_all : (xs : List ℕ) (n x : ℕ) → length xs ≤ n → Has xs x → HasTo xs n x
has_all xs n x all h = let l = get_below xs h.0 x h.1 in (h.0, omega (arith, l, all), h.1)

pub all_has : (xs : List ℕ) (n x : ℕ) → HasTo xs n x → Has xs x
all_has xs n x h = (h.0, h.2)

-- What has the numbers that were looked at, and those with another property, gets one number more.
pub added_next : (xs : List ℕ) (n x : ℕ) (Old New Other : ℕ → Type 0) → slice_get xs n ≡ Some x → ((e : ℕ) → (Old e) ↔ (HasTo xs n e ⊎ Other e)) → ((e : ℕ) → (New e) ↔ ((e ≡ x) ⊎ Old e)) → (e : ℕ) → (New e) ↔ (HasTo xs (n + 1) e ⊎ Other e)
added_next xs n x Old New Other at old new e = (
  λ h. elim ((new e).0 h) [
    | inl last ↦ inl (has_more xs n x e at (inr last))
    | inr before ↦ elim ((old e).0 before) [ inl less ↦ inl (has_more xs n x e at (inl less)) | inr other ↦ inr other ]
  ],
  λ h. (new e).1 (elim h [
    | inl to ↦ elim (has_next xs n x e at to) [ inl less ↦ inr ((old e).1 (inl less)) | inr last ↦ inl last ]
    | inr other ↦ inr ((old e).1 (inr other))
  ]),
)

pub added_all : (xs : List ℕ) (n : ℕ) (Old Other : ℕ → Type 0) → length xs ≤ n → ((e : ℕ) → (Old e) ↔ (HasTo xs n e ⊎ Other e)) → (e : ℕ) → (Old e) ↔ (Has xs e ⊎ Other e)
added_all xs n Old Other all old e = (
  λ h. elim ((old e).0 h) [ inl to ↦ inl (all_has xs n e to) | inr other ↦ inr other ],
  λ h. (old e).1 (elim h [ inl has ↦ inl (has_all xs n e all has) | inr other ↦ inr other ]),
)
