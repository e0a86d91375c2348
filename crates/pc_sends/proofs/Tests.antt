-- Tests of what is at a place of a list, and of what a list with one more element has.
use Rattle.std.specs.Prelude.{◌≡◌, ◌⊎◌, ◌↔◌, ℕ, Bool, true, false, List, [], ◌∷◌, ◌++◌, Some, None, IsTrue, if◌then◌else◌, slice_get}
use Rattle.std.proofs.{Common.{inl, inr, ap, sym, ◌∙◌}, lemmas.Option.{same_Some, none-some}}
use Rattle.pc_base.specs.Lists.{Has, Differ}
use Rattle.pc_base.proofs.{Bools.false_true, Gets.get_push}
use Rattle.pc_sends.specs.Growth.{Grown}

-- There is something at a place, and it passes a test.
abbrev pub Passes : {A : Type 0} → (A → Bool) → List A → ℕ → Type 0
Passes {A} p xs i = (x : A) × (slice_get xs i ≡ Some x) × (p x ≡ true)

pub passes_there : {A : Type 0} → (p : A → Bool) (xs : List A) (i : ℕ) (x : A) (r : Bool) → slice_get xs i ≡ Some x → r ≡ p x → (IsTrue r) ↔ (Passes p xs i)
passes_there p xs i x r at is = (λ e. (x, at, sym is ∙ e), λ k. is ∙ ap p (same_Some x k.0 (sym at ∙ k.1)) ∙ k.2)

pub passes_none : {A : Type 0} → (p : A → Bool) (xs : List A) (i : ℕ) → slice_get xs i ≡ None → (IsTrue false) ↔ (Passes p xs i)
passes_none p xs i at = (λ e. absurd (false_true e), λ k. absurd (none-some k.0 (sym at ∙ k.1)))

-- A list that one element joined has no other that is new.
pub joined : {A : Type 0} → (xs : List A) (x y : A) (b : Bool) → Has (if b then xs else xs ++ x ∷ []) y → Has xs y ⊎ (y ≡ x)
joined xs x y true h = inl h
joined xs x y false h = elim (get_push xs x h.0 y h.1) [ inl old ↦ inl (h.0, old) | inr last ↦ inr (sym last.1) ]

-- What grew from nothing differs.
pub grown_differ : (P : ℕ → Type 0) (xs : List ℕ) → Grown P [] xs → Differ xs
grown_differ P xs g = g.differ (λ i j t e f. absurd (none-some t e))
