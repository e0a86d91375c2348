-- What is decidable of parts is decidable of the whole.
use Rattle.std.proofs.{Common.{◌≡◌, ◌⊎◌, ◌<◌, ◌≤◌, ◌+◌, ℕ, zero, suc, Bool, true, false, List, [], ◌∷◌, ◌++◌, Option, Some, None, inl, inr, refl, sym, ap, ◌∙◌, subst, arith}, lemmas.Bool.{cases_eq, cases_lt, false≢true, true≢false}, lemmas.Option.{none-some, same_Some}}
use Rattle.std.specs.Prelude.{slice_get}
use Rattle.pc_base.proofs.Elements.{has_on}
use Rattle.pc_base.specs.Lists.{Has}
use Rattle.pc_sends.proofs.Filtered.{Filtered, filtered_none, filtered_push, filtered_skip}
use Rattle.pc_verdicts.proofs.Same.{Told, same_option}

pub turned : {A B : Type 0} → (A → B) → (B → A) → Told A → Told B
turned there back (inl a) = inl (there a)
turned there back (inr refuted) = inr (λ b. refuted (back b))

pub both_told : {A B : Type 0} → Told A → Told B → Told (A × B)
both_told (inl a) (inl b) = inl (a, b)
both_told (inl a) (inr refuted) = inr (λ p. refuted p.1)
both_told (inr refuted) b = inr (λ p. refuted p.0)

pub either_told : {A B : Type 0} → Told A → Told B → Told (A ⊎ B)
either_told (inl a) b = inl (inl a)
either_told (inr refuted) (inl b) = inl (inr b)
either_told (inr refuted) (inr none) = inr (λ s. elim s [ inl a ↦ refuted a | inr b ↦ none b ])

pub not_told : {A : Type 0} → Told A → Told (A → ⊥)
not_told (inl a) = inr (λ refuted. refuted a)
not_told (inr refuted) = inl refuted

pub true_told : (b : Bool) → Told (b ≡ true)
true_told true = inl refl
true_told false = inr (λ e. false≢true e)

pub false_told : (b : Bool) → Told (b ≡ false)
false_told true = inr (λ e. true≢false e)
false_told false = inl refl

pub is_told : (o : Option ℕ) (n : ℕ) → Told (o ≡ Some n)
is_told o n = same_option cases_eq o (Some n)

-- ---- elements

-- of the element at a place
pub at_told : {T : Type 0} → (xs : List T) (i : ℕ) (P : T → Type 0) → ((x : T) → Told (P x)) → Told ((x : T) × (slice_get xs i ≡ Some x) × P x)
at_told {T} xs i P tell = by (slice_get xs i) refl
  where
    by : (o : Option T) → slice_get xs i ≡ o → Told ((x : T) × (slice_get xs i ≡ Some x) × P x)
    by None e = inr (λ h. none-some h.0 (sym e ∙ h.1))
    by (Some x) e = turned (λ p. (x, e, p)) (λ h. subst P (same_Some h.0 x (sym h.1 ∙ e)) h.2) (tell x)

has_first : (x b : ℕ) (xs : List ℕ) → Has (x ∷ xs) b → (x ≡ b) ⊎ Has xs b
has_first x b xs (zero, e) = inl (same_Some x b e)
has_first x b xs (suc i, e) = inr (i, e)

pub has_told : (xs : List ℕ) (b : ℕ) → Told (Has xs b)
has_told [] b = inr (λ h. none-some b h.1)
has_told (x ∷ xs) b = turned (λ s. elim s [ inl e ↦ (0, ap Some e) | inr h ↦ has_on x xs b h ]) (has_first x b xs) (either_told (cases_eq x b) (has_told xs b))

-- ---- numbers

pub less_told : (n m : ℕ) → Told (n < m)
less_told n m = elim (cases_lt n m) [ inl l ↦ inl l | inr more ↦ inr (λ l. omega (arith, more, l)) ]

pub least_told : (n m : ℕ) → Told (n ≤ m)
least_told n m = elim (cases_lt m n) [ inl less ↦ inr (λ l. omega (arith, less, l)) | inr l ↦ inl l ]

-- that some number below n has the property
pub some_told : (P : ℕ → Type 0) → ((i : ℕ) → Told (P i)) → (n : ℕ) → Told ((i : ℕ) × (i < n) × P i)
some_told P tell zero = inr (λ h. let l = h.1 in omega (arith, l))
some_told P tell (suc n) = elim (tell n) [
  | inl p ↦ inl (n, omega arith, p)
  | inr refuted ↦ turned (λ h. let l = h.1 in (h.0, omega (arith, l), h.2))
      (λ h. elim (cases_lt h.0 n) [ inl low ↦ (h.0, low, h.2) | inr high ↦ let l = h.1 in let same : h.0 ≡ n = omega (arith, l, high) in absurd (refuted (subst P same h.2)) ])
      (some_told P tell n)
]

-- those below n that have it, in ascending order
pub filtered : (P : ℕ → Type 0) → ((i : ℕ) → Told (P i)) → (n : ℕ) → (xs : List ℕ) × Filtered P n xs
filtered P tell zero = ([], filtered_none P)
filtered P tell (suc n) =
    let f = filtered P tell n in
    let next : n + 1 ≡ suc n = omega arith in
    elim (tell n) [
      | inl p ↦ (f.0 ++ n ∷ [], subst (λ k. Filtered P k (f.0 ++ n ∷ [])) next (filtered_push P n f.0 f.1 p))
      | inr refuted ↦ (f.0, subst (λ k. Filtered P k f.0) next (filtered_skip P n f.0 f.1 refuted))
    ]
