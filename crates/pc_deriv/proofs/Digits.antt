-- The digits of a number, one by one.
use Rattle.std.proofs.{Common.{◌≡◌, ℕ, zero, suc, ◌+◌, ◌*◌, ◌/◌, ◌%◌, ◌^◌, ◌<◌, ◌≤◌, Bool, true, false, cond, ◌==◌, List, [], ◌∷◌, ◌++◌, refl, sym, ap, subst, ◌∙◌, arith, append_assoc}, lemmas.Bool.{eq-eqb, eqb-true, eqb-false}, lemmas.List.append-nil, Math.Nat.pow-succ', lemmas.Fmt.{decimal_step, decimal_digit, hex_one_digit}}
use Rattle.std.specs.Fmt.{digit_glyph, digits_onto, digits, decimal}

-- ---- hex

-- These are the hex digits of a number: a single digit, or those of its sixteenth and one more.
data Hex : ℕ → List ℕ → Type 0 where
  last : {n : ℕ} {ds : List ℕ} → n / 16 ≡ 0 → ds ≡ digit_glyph false (n % 16) ∷ [] → Hex n ds
  more : {n : ℕ} {ds : List ℕ} → (front : List ℕ) → 0 < n / 16 → Hex (n / 16) front → ds ≡ front ++ (digit_glyph false (n % 16) ∷ []) → Hex n ds

no_more : (m : ℕ) → m ≡ 0 → 0 < m → ⊥
no_more m e h = absurd (omega (arith, e, h))

-- A number has only one list of digits.
only : {n : ℕ} (ds es : List ℕ) → Hex n ds → Hex n es → ds ≡ es
only ds es (last z e) (last y f) = e ∙ sym f
only {n} ds es (last z e) (more front p h f) = absurd (no_more (n / 16) z p)
only {n} ds es (more front p h e) (last z f) = absurd (no_more (n / 16) z p)
only {n} ds es (more front p h e) (more other q g f) = e ∙ ap (λ (zs : List ℕ). zs ++ (digit_glyph false (n % 16) ∷ [])) (only front other h g) ∙ sym f

halves : (k n : ℕ) → n < 2 ^ suc (suc k) → n / 16 < 2 ^ suc k
halves k n h = let double : 2 ^ suc (suc k) ≡ 2 * 2 ^ suc k = pow-succ' 2 (suc k) in omega (arith, h, double)

positive : (m : ℕ) → (m == 0) ≡ false → 0 < m
positive zero e = absurd (eqb-false 0 0 e refl)
positive (suc m) e = omega arith

-- What is written for a number, before anything else, is its digits.
written : (k n : ℕ) → n < 2 ^ suc k → (acc : List ℕ) → (ds : List ℕ) × Hex n ds × (digits_onto (suc k) 16 false n acc ≡ ds ++ acc)
written zero n h acc =
    let glyph : ℕ = digit_glyph false (n % 16) in
    let small : n / 16 ≡ 0 = omega (arith, h) in
    (glyph ∷ [], last small refl, ap (λ (t : Bool). cond t (glyph ∷ acc) (digits_onto 0 16 false (n / 16) (glyph ∷ acc))) (eq-eqb (n / 16) 0 small))
written (suc k) n h acc = by_test (n / 16 == 0) refl (written k (n / 16) (halves k n h) (digit_glyph false (n % 16) ∷ acc))
  where
    by_test : (t : Bool) → (n / 16 == 0) ≡ t → ((ds : List ℕ) × Hex (n / 16) ds × (digits_onto (suc k) 16 false (n / 16) (digit_glyph false (n % 16) ∷ acc) ≡ ds ++ (digit_glyph false (n % 16) ∷ acc)))
        → (ds : List ℕ) × Hex n ds × (cond t (digit_glyph false (n % 16) ∷ acc) (digits_onto (suc k) 16 false (n / 16) (digit_glyph false (n % 16) ∷ acc)) ≡ ds ++ acc)
    by_test true e rest = (digit_glyph false (n % 16) ∷ [], last (eqb-true (n / 16) 0 e) refl, refl)
    by_test false e rest =
        (rest.0 ++ (digit_glyph false (n % 16) ∷ []), more rest.0 (positive (n / 16) e) rest.1 refl, rest.2 ∙ sym (append_assoc rest.0 (digit_glyph false (n % 16) ∷ []) acc))

digits_are : (n : ℕ) → n < 2 ^ 64 → Hex n (digits 16 false n)
unfolding digits
digits_are n h = let w = written 63 n h [] in subst (Hex n) (sym (w.2 ∙ append-nil w.0)) w.1

-- The digits of a number of more than one digit: those of its sixteenth, and the last one.
pub hex_step : (n : ℕ) → 16 ≤ n → n < 2 ^ 64 → digits 16 false n ≡ digits 16 false (n / 16) ++ (digit_glyph false (n % 16) ∷ [])
hex_step n high small =
    let some : 0 < n / 16 = omega (arith, high) in
    let below : n / 16 < 2 ^ 64 = omega (arith, small) in
    only (digits 16 false n) (digits 16 false (n / 16) ++ (digit_glyph false (n % 16) ∷ [])) (digits_are n small) (more (digits 16 false (n / 16)) some (digits_are (n / 16) below) refl)

-- ---- both bases

-- The digits in a base, for one digit and for one more digit.
pub record Base (base : ℕ) : Type 0 where
  pub some : 2 ≤ base
  pub small : base ≤ 16
  pub one : (d : ℕ) → d < base → digits base false d ≡ digit_glyph false d ∷ []
  pub more : (v d : ℕ) → 0 < v → d < base → v * base + d < 2 ^ 64 → digits base false (v * base + d) ≡ digits base false v ++ (digit_glyph false d ∷ [])

ten_glyph : (d : ℕ) → d < 10 → 48 + d ≡ digit_glyph false d
ten_glyph d h = grind arith

ten_more : (v d : ℕ) → 0 < v → d < 10 → v * 10 + d < 2 ^ 64 → digits 10 false (v * 10 + d) ≡ digits 10 false v ++ (digit_glyph false d ∷ [])
ten_more v d some h small =
    let front : (v * 10 + d) / 10 ≡ v = omega arith in
    let last : (v * 10 + d) % 10 ≡ d = omega arith in
    decimal_step (v * 10 + d) (omega arith) small ∙ (λ i. decimal (front i) ++ ((48 + last i) ∷ [])) ∙ ap (λ g. decimal v ++ (g ∷ [])) (ten_glyph d h)

pub ten : Base 10
ten = record {
  some = omega arith;
  small = omega arith;
  one = λ d h. decimal_digit d h ∙ ap (λ g. g ∷ []) (ten_glyph d h);
  more = ten_more;
}

sixteen_more : (v d : ℕ) → 0 < v → d < 16 → v * 16 + d < 2 ^ 64 → digits 16 false (v * 16 + d) ≡ digits 16 false v ++ (digit_glyph false d ∷ [])
sixteen_more v d some h small =
    let front : (v * 16 + d) / 16 ≡ v = omega arith in
    let last : (v * 16 + d) % 16 ≡ d = omega arith in
    hex_step (v * 16 + d) (omega arith) small ∙ (λ i. digits 16 false (front i) ++ (digit_glyph false (last i) ∷ []))

pub sixteen : Base 16
sixteen = record {
  some = omega arith;
  small = omega arith;
  one = λ d h. hex_one_digit false d h;
  more = sixteen_more;
}
