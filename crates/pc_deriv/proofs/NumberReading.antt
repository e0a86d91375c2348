-- A number is read from its digits and their end, and from nothing else.
use Rattle.std.proofs.{Common.{◌≡◌, ℕ, zero, suc, ◌+◌, ◌-◌, ◌*◌, ◌/◌, ◌%◌, ◌^◌, ◌<◌, ◌≤◌, Bool, true, false, cond, ◌&&◌, ◌==◌, List, [], ◌∷◌, ◌++◌, Option, Some, None, refl, sym, ap, ◌∙◌, arith, append_assoc, mod-lt}, lemmas.Bool.{eq-eqb, ne_eqb, eqb-true}, lemmas.Bool.Decides.nat_tests, lemmas.Nat.div-add-mod', lemmas.Option.same_Some}
use Rattle.std.specs.{Prelude.{nat_lt, nat_le}, Char.{is_ascii_digit, is_ascii_lowercase}, Fmt.{digit_glyph, digits}}
use Rattle.pc_deriv.specs.Reading.{digit_of, at_most, with_digit, digits_on, number_at}
use Rattle.pc_base.specs.Lists.{◌>>=◌}
use Rattle.pc_deriv.proofs.Digits.{Base}
use Rattle.pc_base.proofs.Options.{none_some, bind_some}

pub bind_own : {A B : Type 0} (o : Option A) (f : A → Option B) (x : A) (y : Option B) → o ≡ Some x → f x ≡ y → (o >>= f) ≡ y
bind_own {A = A} o f x y e h = ap (λ (p : Option A). p >>= f) e ∙ h

digit_by : (base b d : ℕ) (s t : Bool) → base ≤ 16 → (is_ascii_digit b && nat_lt (b - 48) base) ≡ s → (is_ascii_lowercase b && nat_lt (b - 97 + 10) base) ≡ t
    → cond s (Some (b - 48)) (cond t (Some (b - 97 + 10)) None) ≡ Some d → (d < base) × (b ≡ digit_glyph false d)
digit_by base b d true t small p q e =
    let is : b - 48 ≡ d = same_Some (b - 48) d e in
    let low : d < base = grind (arith, nat_tests) in
    let same : b ≡ digit_glyph false d = grind (arith, nat_tests) in
    (low, same)
digit_by base b d false true small p q e =
    let is : b - 97 + 10 ≡ d = same_Some (b - 97 + 10) d e in
    let low : d < base = grind (arith, nat_tests) in
    let same : b ≡ digit_glyph false d = grind (arith, nat_tests) in
    (low, same)
digit_by base b d false false small p q e = absurd (none_some e)

digit_sound : (base b d : ℕ) → base ≤ 16 → digit_of base b ≡ Some d → (d < base) × (b ≡ digit_glyph false d)
digit_sound base b d small e = digit_by base b d (is_ascii_digit b && nat_lt (b - 48) base) (is_ascii_lowercase b && nat_lt (b - 97 + 10) base) small refl refl e

pub digit_own : (base d : ℕ) → base ≤ 16 → d < base → digit_of base (digit_glyph false d) ≡ Some d
digit_own base d small h = grind (arith, nat_tests)

at_most_by : (most n v : ℕ) (t : Bool) → nat_le n most ≡ t → cond t (Some n) None ≡ Some v → (v ≡ n) × (n ≤ most)
at_most_by most n v true p e = (sym (same_Some n v e), grind (arith, nat_tests))
at_most_by most n v false p e = absurd (none_some e)

at_most_own : (most n : ℕ) → n ≤ most → at_most most n ≡ Some n
at_most_own most n h = grind (arith, nat_tests)

module _ (base most end : ℕ) (is : Base base) (fits : most < 2 ^ 64) where
  with_by : (value b w : ℕ) (t : Bool) → (value == 0) ≡ t → cond t None (digit_of base b >>= (λ d. at_most most (value * base + d))) ≡ Some w
      → (w ≤ most) × (digits base false w ≡ digits base false value ++ (b ∷ []))
  with_by value b w true p e = absurd (none_some e)
  with_by value b w false p e =
      let h = bind_some (digit_of base b) (λ d. at_most most (value * base + d)) w e in
      let digit = digit_sound base b h.0 is.small h.1 in
      let top = at_most_by most (value * base + h.0) w (nat_le (value * base + h.0) most) refl h.2 in
      let some : 0 < value = grind (arith, nat_tests) in (
        omega (arith, top.0, top.1),
        ap (digits base false) top.0 ∙ is.more value h.0 some digit.0 (omega (arith, top.1)) ∙ ap (λ g. digits base false value ++ (g ∷ [])) (sym digit.1),
      )

  with_sound : (value b w : ℕ) → with_digit base most value b ≡ Some w → (w ≤ most) × (digits base false w ≡ digits base false value ++ (b ∷ []))
  with_sound value b w e = with_by value b w (value == 0) refl e

  on_by : (value b : ℕ) (bs : List ℕ) (n : ℕ) (rest : List ℕ) (t : Bool) → value ≤ most → (b == end) ≡ t
      → cond t (Some (value, bs)) (with_digit base most value b >>= (λ v. digits_on base most end v bs)) ≡ Some (n, rest)
      → ((w : ℕ) → w ≤ most → digits_on base most end w bs ≡ Some (n, rest) → (n ≤ most) × (digits base false w ++ bs ≡ digits base false n ++ (end ∷ rest)))
      → (n ≤ most) × (digits base false value ++ (b ∷ bs) ≡ digits base false n ++ (end ∷ rest))
  on_by value b bs n rest true low p e more =
      let same : (value, bs) ≡ (n, rest) = same_Some (value, bs) (n, rest) e in
      let number : value ≡ n = ap (λ x. x.0) same in
      let after : bs ≡ rest = ap (λ x. x.1) same in
      let ends : b ≡ end = eqb-true b end p in
      (omega (arith, number), (λ i. digits base false (number i) ++ (ends i ∷ after i)))
  on_by value b bs n rest false low p e more =
      let h = bind_some (with_digit base most value b) (λ v. digits_on base most end v bs) (n, rest) e in
      let w = with_sound value b h.0 h.1 in
      let r = more h.0 w.0 h.2 in
      (r.0, sym (append_assoc (digits base false value) (b ∷ []) bs) ∙ ap (λ l. l ++ bs) (sym w.1) ∙ r.1)

  on_sound : (value : ℕ) (text : List ℕ) (n : ℕ) (rest : List ℕ) → value ≤ most → digits_on base most end value text ≡ Some (n, rest)
      → (n ≤ most) × (digits base false value ++ text ≡ digits base false n ++ (end ∷ rest))
  on_sound value [] n rest low e = absurd (none_some e)
  on_sound value (b ∷ bs) n rest low e = on_by value b bs n rest (b == end) low refl e (λ w small h. on_sound w bs n rest small h)

  pub number_sound : (text : List ℕ) (n : ℕ) (rest : List ℕ) → base ≤ most → number_at base most end text ≡ Some (n, rest) → (n ≤ most) × (text ≡ digits base false n ++ (end ∷ rest))
  number_sound [] n rest room e = absurd (none_some e)
  number_sound (b ∷ bs) n rest room e =
      let h = bind_some (digit_of base b) (λ d. digits_on base most end d bs) (n, rest) e in
      let digit = digit_sound base b h.0 is.small h.1 in
      let r = on_sound h.0 bs n rest (omega (arith, digit.0)) h.2 in
      (r.0, sym (ap (λ l. l ++ bs) (is.one h.0 digit.0) ∙ ap (λ g. g ∷ bs) (sym digit.1)) ∙ r.1)

  module _ (apart : digit_of base end ≡ None) where
    not_end : (d : ℕ) → d < base → (digit_glyph false d == end) ≡ false
    not_end d h =
        let other : digit_glyph false d ≡ end → ⊥ = λ e. none_some (sym apart ∙ ap (digit_of base) (sym e) ∙ digit_own base d is.small h) in
        ne_eqb (digit_glyph false d) end other

    with_own : (value d : ℕ) → 0 < value → d < base → value * base + d ≤ most → with_digit base most value (digit_glyph false d) ≡ Some (value * base + d)
    with_own value d some h low =
        let other : (value == 0) ≡ false = ne_eqb value 0 (λ e. omega arith) in
        ap (λ t. cond t None (digit_of base (digit_glyph false d) >>= (λ x. at_most most (value * base + x)))) other
        ∙ bind_own (digit_of base (digit_glyph false d)) (λ x. at_most most (value * base + x)) d (Some (value * base + d)) (digit_own base d is.small h) (at_most_own most (value * base + d) low)

    on_step : (value d : ℕ) (tail : List ℕ) → 0 < value → d < base → value * base + d ≤ most → digits_on base most end value (digit_glyph false d ∷ tail) ≡ digits_on base most end (value * base + d) tail
    on_step value d tail some h low =
        ap (λ t. cond t (Some (value, tail)) (with_digit base most value (digit_glyph false d) >>= (λ v. digits_on base most end v tail))) (not_end d h)
        ∙ bind_own (with_digit base most value (digit_glyph false d)) (λ v. digits_on base most end v tail) (value * base + d) (digits_on base most end (value * base + d) tail) (with_own value d some h low) refl

    grows : (q r : ℕ) → 0 < q → q < q * base + r
    grows q r some = let two : 2 ≤ base = is.some in grind arith

    lead_by : (n q r : ℕ) (tail : List ℕ) → n ≤ most → q * base + r ≡ n → r < base
        → ((more : List ℕ) → q < n → number_at base most end (digits base false q ++ more) ≡ digits_on base most end q more)
        → number_at base most end (digits base false n ++ tail) ≡ digits_on base most end n tail
    lead_by n zero r tail low whole h more =
        let same : r ≡ n = omega (arith, whole) in
        ap (λ l. number_at base most end (l ++ tail)) (ap (digits base false) (sym same) ∙ is.one r h)
        ∙ bind_own (digit_of base (digit_glyph false r)) (λ d. digits_on base most end d tail) r (digits_on base most end n tail) (digit_own base r is.small h) (ap (λ v. digits_on base most end v tail) same)
    lead_by n (suc q) r tail low whole h more =
        let g = digit_glyph false r in
        let near : suc q < suc q * base + r = grows (suc q) r (omega arith) in
        let cut : digits base false n ≡ digits base false (suc q) ++ (g ∷ []) = ap (digits base false) (sym whole) ∙ is.more (suc q) r (omega arith) h (omega (arith, whole)) in
        ap (λ l. number_at base most end (l ++ tail)) cut
        ∙ ap (number_at base most end) (append_assoc (digits base false (suc q)) (g ∷ []) tail)
        ∙ more (g ∷ tail) (omega (arith, near, whole))
        ∙ on_step (suc q) r tail (omega arith) h (omega (arith, whole))
        ∙ ap (λ v. digits_on base most end v tail) whole

    lead : (k n : ℕ) (tail : List ℕ) → n < k → n ≤ most → number_at base most end (digits base false n ++ tail) ≡ digits_on base most end n tail
    lead zero n tail less low = absurd (omega arith)
    lead (suc k) n tail less low =
        let some : 0 < base = omega (arith, is.some) in
        lead_by n (n / base) (n % base) tail low (div-add-mod' n base) (mod-lt n some) (λ more near. lead k (n / base) more (omega (arith, near)) (omega (arith, near)))

    pub number_own : (n : ℕ) (rest : List ℕ) → n ≤ most → number_at base most end (digits base false n ++ (end ∷ rest)) ≡ Some (n, rest)
    number_own n rest low =
        lead (suc n) n (end ∷ rest) (omega arith) low
        ∙ ap (λ t. cond t (Some (n, rest)) (with_digit base most n end >>= (λ v. digits_on base most end v rest))) (eq-eqb end end refl)
