-- A number whose last digits are in a buffer.
use Rattle.std.proofs.{Common.{◌≡◌, ℕ, zero, suc, ◌+◌, ◌-◌, ◌*◌, ◌/◌, ◌%◌, ◌^◌, ◌<◌, ◌≤◌, false, List, [], ◌∷◌, ◌++◌, length, take, drop, set, sym, ap, ◌∙◌, subst, arith, append_assoc, append-nil}, lemmas.List.{drop-set, drop_all, take_rest}, Math.Nat.pow-succ', lemmas.Fmt.{decimal_step, decimal_digit, hex_one_digit}}
use Rattle.std.specs.Fmt.{digit_glyph, digits, decimal}
use Rattle.pc_deriv.proofs.Digits.{hex_step}

-- no digit is in the buffer yet
pub no_digit : (base number at : ℕ) (buffer : List ℕ) → length buffer ≤ at → digits base false number ≡ digits base false number ++ drop at buffer
no_digit base number at buffer past = sym (ap (λ l. digits base false number ++ l) (drop_all at buffer past) ∙ append-nil (digits base false number))

-- the whole rest of a buffer of this size
pub rest_all : (buffer : List ℕ) (size at : ℕ) → length buffer ≡ size → take (size - at) (drop at buffer) ≡ drop at buffer
rest_all buffer size at same = ap (λ n. take (n - at) (drop at buffer)) (sym same) ∙ take_rest buffer at

put_before : (buffer : List ℕ) (at digit : ℕ) → 0 < at → at ≤ length buffer → drop (at - 1) (set buffer (at - 1) digit) ≡ digit ∷ drop at buffer
put_before buffer at digit some within =
    let next : at - 1 + 1 ≡ at = omega arith in
    drop-set buffer (at - 1) digit (omega arith) ∙ ap (λ i. digit ∷ drop i buffer) next

moved : (front rest : List ℕ) (digit : ℕ) → (front ++ digit ∷ []) ++ rest ≡ front ++ (digit ∷ rest)
moved front rest digit = append_assoc front (digit ∷ []) rest

-- ---- hexadecimal

pub hex_room : (front at : ℕ) → 16 ≤ front → front < 16 ^ at → (0 < at) × (front / 16 < 16 ^ (at - 1))
hex_room front zero high low = absurd (omega (arith, high, low))
hex_room front (suc at) high low =
    let power : 16 ^ suc at ≡ 16 * 16 ^ at = pow-succ' 16 at in
    let less : suc at - 1 ≡ at = omega arith in
    (omega arith, subst (λ n. front / 16 < 16 ^ n) (sym less) (omega (arith, low, power)))

pub hex_put : (number front at : ℕ) (buffer : List ℕ) → 16 ≤ front → front < 2 ^ 64 → 0 < at → at ≤ length buffer → digits 16 false number ≡ digits 16 false front ++ drop at buffer
    → digits 16 false number ≡ digits 16 false (front / 16) ++ drop (at - 1) (set buffer (at - 1) (digit_glyph false (front % 16)))
hex_put number front at buffer high small some within so =
    let digit = digit_glyph false (front % 16) in
    so ∙ ap (λ l. l ++ drop at buffer) (hex_step front high small) ∙ moved (digits 16 false (front / 16)) (drop at buffer) digit
    ∙ ap (λ l. digits 16 false (front / 16) ++ l) (sym (put_before buffer at digit some within))

pub hex_whole : (number front at : ℕ) (buffer : List ℕ) → front < 16 → digits 16 false number ≡ digits 16 false front ++ drop at buffer → digit_glyph false front ∷ drop at buffer ≡ digits 16 false number
hex_whole number front at buffer low so = sym (so ∙ ap (λ l. l ++ drop at buffer) (hex_one_digit false front low))

pub hex_one : (number glyph : ℕ) (old new : List ℕ) → number < 16 → glyph ≡ digit_glyph false number → new ≡ old ++ glyph ∷ [] → new ≡ old ++ digits 16 false number
hex_one number glyph old new low is puts = puts ∙ ap (λ d. old ++ d ∷ []) is ∙ ap (λ l. old ++ l) (sym (hex_one_digit false number low))

-- ---- decimal

pub decimal_room : (front at : ℕ) → 10 ≤ front → front < 10 ^ (at + 1) → (0 < at) × (front / 10 < 10 ^ (at - 1 + 1))
decimal_room front zero high low = absurd (omega (arith, high, low))
decimal_room front (suc at) high low =
    let more : suc at + 1 ≡ suc (suc at) = omega arith in
    let same : suc at - 1 + 1 ≡ suc at = omega arith in
    let below : front < 10 ^ suc (suc at) = subst (λ n. front < 10 ^ n) more low in
    let power : 10 ^ suc (suc at) ≡ 10 * 10 ^ suc at = pow-succ' 10 (suc at) in
    (omega arith, subst (λ n. front / 10 < 10 ^ n) (sym same) (omega (arith, below, power)))

pub decimal_put : (number front at : ℕ) (buffer : List ℕ) → 10 ≤ front → front < 2 ^ 32 → 0 < at → at ≤ length buffer → decimal number ≡ decimal front ++ drop at buffer
    → decimal number ≡ decimal (front / 10) ++ drop (at - 1) (set buffer (at - 1) (48 + front % 10))
decimal_put number front at buffer high small some within so =
    let digit = 48 + front % 10 in
    so ∙ ap (λ l. l ++ drop at buffer) (decimal_step front high (omega arith)) ∙ moved (decimal (front / 10)) (drop at buffer) digit
    ∙ ap (λ l. decimal (front / 10) ++ l) (sym (put_before buffer at digit some within))

pub decimal_whole : (number front at : ℕ) (buffer : List ℕ) → front < 10 → decimal number ≡ decimal front ++ drop at buffer → (48 + front) ∷ drop at buffer ≡ decimal number
decimal_whole number front at buffer low so = sym (so ∙ ap (λ l. l ++ drop at buffer) (decimal_digit front low))

pub decimal_one : (number glyph : ℕ) (old new : List ℕ) → number < 10 → glyph ≡ 48 + number → new ≡ old ++ glyph ∷ [] → new ≡ old ++ decimal number
decimal_one number glyph old new low is puts = puts ∙ ap (λ d. old ++ d ∷ []) is ∙ ap (λ l. old ++ l) (sym (decimal_digit number low))
