-- Sets of entities as masks.
use Rattle.std.specs.Prelude.{◌≡◌, ◌⊎◌, ◌↔◌, ℕ, zero, suc, ◌+◌, ◌<◌, ◌≤◌, List, [], ◌∷◌, ◌++◌, length, refl}
use Rattle.std.proofs.Common.{inl, inr, sym, subst, arith}
use Rattle.pc_masks.specs.{Masks.{IsInMask, empty}, MaskLaws.first_bits, declared.mask.Mask.Mask}
use Rattle.pc_core.specs.EntitySets.{AreMet, mask_at}

-- The empty mask has no bit.
pub empty_has_none : (j : ℕ) → IsInMask empty j → ⊥
empty_has_none j h = let l = ((first_bits 0 j).0 h).0 in absurd (omega (arith, l))

past : (set : List Mask) (i : ℕ) → length set ≤ i → mask_at set i ≡ empty
past [] i l = refl
past (x ∷ xs) zero l = absurd (omega (arith, l))
past (x ∷ xs) (suc i) l = let k : length xs ≤ i = omega (arith, l) in past xs i k

-- One more mask leaves those before it as they are.
front : (set : List Mask) (m : Mask) (i : ℕ) → i < length set → mask_at (set ++ m ∷ []) i ≡ mask_at set i
front [] m i l = absurd (omega (arith, l))
front (x ∷ xs) m zero l = refl
front (x ∷ xs) m (suc i) l = let k : i < length xs = omega (arith, l) in front xs m i k

behind : (set : List Mask) (m : Mask) → mask_at (set ++ m ∷ []) (length set) ≡ m
behind [] m = refl
behind (x ∷ xs) m = behind xs m

-- Whether a place is below the last.
cases : (i n : ℕ) → (i < n) ⊎ (n ≤ i)
cases i zero = inr (omega arith)
cases zero (suc n) = inl (omega arith)
cases (suc i) (suc n) = elim (cases i n) [ inl l ↦ inl (omega (arith, l)) | inr l ↦ inr (omega (arith, l)) ]

-- The masks below place n have the bits that both have.
abbrev pub MetTo : (first second both : List Mask) → ℕ → Type 0
MetTo first second both n = (i j : ℕ) → i < n → (IsInMask (mask_at both i) j) ↔ (IsInMask (mask_at first i) j × IsInMask (mask_at second i) j)

pub met_push : (first second masks : List Mask) (n : ℕ) (m : Mask) → length masks ≡ n → MetTo first second masks n → ((j : ℕ) → (IsInMask m j) ↔ (IsInMask (mask_at first n) j × IsInMask (mask_at second n) j)) → MetTo first second (masks ++ m ∷ []) (n + 1)
met_push first second masks n m long met here i j l =
    elim (cases i n) [
      | inl low ↦
          let same = front masks m i (omega (arith, long, low)) in
          subst (λ (x : Mask). (IsInMask x j) ↔ (IsInMask (mask_at first i) j × IsInMask (mask_at second i) j)) (sym same) (met i j low)
      | inr high ↦
          let at : n ≡ i = omega (arith, l, high) in
          let last : mask_at (masks ++ m ∷ []) n ≡ m = subst (λ k. mask_at (masks ++ m ∷ []) k ≡ m) long (behind masks m) in
          subst (λ k. (IsInMask (mask_at (masks ++ m ∷ []) k) j) ↔ (IsInMask (mask_at first k) j × IsInMask (mask_at second k) j)) at
          (subst (λ (x : Mask). (IsInMask x j) ↔ (IsInMask (mask_at first n) j × IsInMask (mask_at second n) j)) (sym last) (here j))
    ]

pub met_all : (first second masks : List Mask) (n : ℕ) → length masks ≡ n → length first ≤ n → MetTo first second masks n → AreMet first second masks
met_all first second masks n long short met i j =
    elim (cases i n) [
      | inl low ↦ met i j low
      | inr high ↦
          let none = past masks i (omega (arith, long, high)) in
          let neither = past first i (omega (arith, short, high)) in (
            λ h. absurd (empty_has_none j (subst (λ (x : Mask). IsInMask x j) none h)),
            λ h. absurd (empty_has_none j (subst (λ (x : Mask). IsInMask x j) neither h.0)),
          )
    ]
