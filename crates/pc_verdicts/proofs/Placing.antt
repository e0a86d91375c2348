-- What is at the places of a run, listed place by place.
use Rattle.std.proofs.{Common.{◌≡◌, ◌⊎◌, ◌<◌, ℕ, suc, List, [], ◌∷◌, ◌++◌, length, Some, inl, inr, sym, ap, ◌∙◌, subst, arith}, lemmas.Bool.cases_lt, lemmas.Option.none-some}
use Rattle.std.specs.Prelude.{slice_get}
use Rattle.pc_base.proofs.Gets.{get_behind, get_below, get_front, get_push}

-- Each thing has a number, which is its place counted from 1, and is as required at that place. Some places are wanted.
module _ {T : Type 0} (number : T → ℕ) (At : ℕ → T → Type 0) (Wanted : ℕ → Type 0) where
  -- The things are those of the places before this one, in order, and at each place that is wanted there is one.
  pub record Listed (n : ℕ) (xs : List T) : Type 0 where
    pub each : (k : ℕ) (t : T) → slice_get xs k ≡ Some t → (p : ℕ) × (p < n) × (number t ≡ suc p) × At p t
    pub order : (k m : ℕ) (t u : T) → k < m → slice_get xs k ≡ Some t → slice_get xs m ≡ Some u → number t < number u
    pub all : (p : ℕ) → p < n → Wanted p → (k : ℕ) × (t : T) × (slice_get xs k ≡ Some t) × (number t ≡ suc p)

  pub listed_none : Listed 0 []
  listed_none = record { each = λ k t e. absurd (none-some t e); order = λ k m t u l e f. absurd (none-some t e); all = λ p l w. absurd (omega (arith, l)) }

  pub listed_rest : (n : ℕ) (xs : List T) → Listed n xs → (Wanted n → ⊥) → Listed (suc n) xs
  listed_rest n xs h unwanted = record {
    each = λ k t e. let r = h.each k t e in let l = r.1 in (r.0, omega (arith, l), r.2, r.3);
    order = h.order;
    all = λ p l w. elim (cases_lt p n) [
      | inl low ↦ h.all p low w
      | inr high ↦ let same : p ≡ n = omega (arith, l, high) in absurd (unwanted (subst Wanted same w))
    ];
  }

  module _ (n : ℕ) (xs : List T) (h : Listed n xs) (new : T) (here : number new ≡ suc n) (at : At n new) where
    number_below : (k : ℕ) (t : T) → slice_get xs k ≡ Some t → number t < suc n
    number_below k t e = let r = h.each k t e in let l = r.1 in let is = r.2 in omega (arith, l, is)

    ordered : (k m : ℕ) (t u : T) → k < m → (slice_get xs k ≡ Some t) ⊎ ((k ≡ length xs) × (new ≡ t)) → (slice_get xs m ≡ Some u) ⊎ ((m ≡ length xs) × (new ≡ u)) → number t < number u
    ordered k m t u l (inl e) (inl f) = h.order k m t u l e f
    ordered k m t u l (inl e) (inr f) = let low = number_below k t e in let is = ap number f.1 in omega (arith, low, is, here)
    ordered k m t u l (inr e) (inl f) = let low = get_below xs m u f in let is = e.0 in absurd (omega (arith, low, is, l))
    ordered k m t u l (inr e) (inr f) = let is = e.0 in let too = f.0 in absurd (omega (arith, is, too, l))

    pub listed_more : Listed (suc n) (xs ++ new ∷ [])
    listed_more = record {
      each = λ k t e. elim (get_push xs new k t e) [
        | inl old ↦ let r = h.each k t old in let l = r.1 in (r.0, omega (arith, l), r.2, r.3)
        | inr last ↦ (n, omega arith, ap number (sym last.1) ∙ here, subst (At n) last.1 at)
      ];
      order = λ k m t u l e f. ordered k m t u l (get_push xs new k t e) (get_push xs new m u f);
      all = λ p l w. elim (cases_lt p n) [
        | inl low ↦ let r = h.all p low w in (r.0, r.1, get_front xs (new ∷ []) r.0 r.1 r.2, r.3)
        | inr high ↦ let same : n ≡ p = omega (arith, l, high) in (length xs, new, get_behind xs new [], here ∙ ap suc same)
      ];
    }
