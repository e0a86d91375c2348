-- What the operations on masks do to each number.
use Rattle.std.proofs.{Common.{inl, inr, ap, sym, subst, ◌∙◌, arith, add-mul, mod-lt, pow_pos, zero-mul}, lemmas.Bool.{cases_lt, cases_order, eqb-true, eq-eqb, lt-ltb, le-ltb}, lemmas.Bool.Decides.eqb_tells, lemmas.Nat.shr_split, lemmas.Nat.Bits.{bit_at-lt, bit_at_lowest, bit_at-suc, bit_at_and, bit_at_or, bit_at-pow_same, bit_at-pow_other, and_pow, bit_at_above, bit_at_cat_low, bit_at_cat_high, bit_at_ones, bit_at_ones_above, same_from_bits}}
use Rattle.std.specs.{Prelude.{◌≡◌, ◌≢◌, ◌⊎◌, ◌↔◌, ℕ, zero, suc, ◌+◌, ◌-◌, ◌*◌, ◌/◌, ◌%◌, ◌^◌, ◌<◌, ◌≤◌, true, cond, min, max, IsTrue, bit_and, bit_or, nat_eq, nat_lt, refl}, Int.bit_at}
use Rattle.pc_masks.specs.{declared.mask.Mask.Mask, Masks.{IsInMask, first, with_number, without_number, meet, join, within}}

-- Clearing a bit of a number: that bit is 0, and the others are as before.
half_twice : (q : ℕ) → q * 2 / 2 ≡ q
half_twice q = omega arith

even : (q : ℕ) → q * 2 % 2 ≡ 0
even q = omega arith

split_high : (a p d r : ℕ) → d * p + r ≡ a → a - (d % 2) * p ≡ (d / 2 * 2) * p + r
split_high a p d r e =
    let h : d ≡ d / 2 * 2 + d % 2 = omega arith in
    let k : d * p ≡ (d / 2 * 2) * p + (d % 2) * p = ap (λ x. x * p) h ∙ add-mul (d / 2 * 2) (d % 2) p in
    omega (arith, e, k)

cleared : (a k : ℕ) → a - bit_and a (2 ^ k) ≡ (a / 2 ^ k / 2 * 2) * 2 ^ k + a % 2 ^ k
cleared a k = ap (λ x. a - x) (and_pow a k) ∙ split_high a (2 ^ k) (a / 2 ^ k) (a % 2 ^ k) (shr_split a k)

high_bits : (d j : ℕ) → bit_at (d / 2 * 2) (suc j) ≡ bit_at d (suc j)
high_bits d j = bit_at-suc (d / 2 * 2) j ∙ ap (λ x. bit_at x j) (half_twice (d / 2)) ∙ sym (bit_at-suc d j)

rest_below : (a k : ℕ) → a % 2 ^ k < 2 ^ k
rest_below a k = mod-lt a (pow_pos k)

cleared_same : (a k : ℕ) → bit_at (a - bit_and a (2 ^ k)) k ≡ 0
cleared_same a k =
    let z : k - k ≡ 0 = omega arith in
    ap (λ x. bit_at x k) (cleared a k)
    ∙ bit_at_cat_high (a / 2 ^ k / 2 * 2) k (a % 2 ^ k) k (rest_below a k) (omega arith)
    ∙ ap (bit_at (a / 2 ^ k / 2 * 2)) z ∙ bit_at_lowest (a / 2 ^ k / 2 * 2) ∙ even (a / 2 ^ k / 2)

cleared_below : (a k i : ℕ) → i < k → bit_at (a - bit_and a (2 ^ k)) i ≡ bit_at a i
cleared_below a k i l =
    ap (λ x. bit_at x i) (cleared a k)
    ∙ bit_at_cat_low (a / 2 ^ k / 2 * 2) k (a % 2 ^ k) i l
    ∙ sym (ap (λ x. bit_at x i) (sym (shr_split a k)) ∙ bit_at_cat_low (a / 2 ^ k) k (a % 2 ^ k) i l)

cleared_above : (a k i : ℕ) → k < i → bit_at (a - bit_and a (2 ^ k)) i ≡ bit_at a i
cleared_above a k i l =
    let e : i - k ≡ suc (i - k - 1) = omega (arith, l) in
    ap (λ x. bit_at x i) (cleared a k)
    ∙ bit_at_cat_high (a / 2 ^ k / 2 * 2) k (a % 2 ^ k) i (rest_below a k) (omega (arith, l))
    ∙ ap (bit_at (a / 2 ^ k / 2 * 2)) e ∙ high_bits (a / 2 ^ k) (i - k - 1) ∙ sym (ap (bit_at (a / 2 ^ k)) e)
    ∙ sym (ap (λ x. bit_at x i) (sym (shr_split a k)) ∙ bit_at_cat_high (a / 2 ^ k) k (a % 2 ^ k) i (rest_below a k) (omega (arith, l)))

bit_of : (n i : ℕ) → nat_eq (bit_at n i) 1 ≡ true → bit_at n i ≡ 1
bit_of n i h = eqb-true (bit_at n i) 1 h

of_bit : (n i : ℕ) → bit_at n i ≡ 1 → nat_eq (bit_at n i) 1 ≡ true
of_bit n i h = eq-eqb (bit_at n i) 1 h

same_bit : (a b i : ℕ) → bit_at a i ≡ bit_at b i → nat_eq (bit_at a i) 1 ≡ true → nat_eq (bit_at b i) 1 ≡ true
same_bit a b i e h = subst (λ x. nat_eq x 1 ≡ true) e h

-- Removing a number: the others stay.
pub without_number_bits : (m : Mask) (k i : ℕ) → (IsInMask (without_number m k) i) ↔ ((i ≢ k) × IsInMask m i)
without_number_bits m k i =
    let a = m.0 in
    let b = m.0 - bit_and m.0 (2 ^ k) in
    elim (cases_order i k) [
      | inl e ↦ (λ h. let z = sym (ap (bit_at b) e) ∙ bit_of b i h in let o = cleared_same a k in absurd (omega (arith, z, o)), λ h. absurd (h.0 e))
      | inr o ↦ elim o [
        | inl l ↦ (λ h. (λ e. absurd (omega (arith, l, e)), same_bit b a i (cleared_below a k i l) h), λ h. same_bit a b i (sym (cleared_below a k i l)) h.1)
        | inr l ↦ (λ h. (λ e. absurd (omega (arith, l, e)), same_bit b a i (cleared_above a k i l) h), λ h. same_bit a b i (sym (cleared_above a k i l)) h.1)
      ]
    ]

-- Removing a number past 63 changes nothing.
pub without_number_past : (m : Mask) (k : ℕ) → m.0 < 2 ^ 64 → 64 ≤ k → (without_number m k).0 ≡ m.0
without_number_past m k w l =
    let z : bit_and m.0 (2 ^ k) ≡ 0 = and_pow m.0 k ∙ ap (λ x. x * 2 ^ k) (bit_at_above m.0 64 k w l) ∙ zero-mul (2 ^ k) in
    omega (arith, z)

-- Setting a bit of a number: that bit is 1, and the others are as before.
max_one : (x : ℕ) → x < 2 → max x 1 ≡ 1
max_one x l = omega (arith, l)

max_zero : (x : ℕ) → max x 0 ≡ x
max_zero x = omega arith

joined_same : (a k : ℕ) → bit_at (bit_or a (2 ^ k)) k ≡ 1
joined_same a k = bit_at_or a (2 ^ k) k ∙ ap (max (bit_at a k)) (bit_at-pow_same k) ∙ max_one (bit_at a k) (bit_at-lt a k)

joined_other : (a k i : ℕ) → i ≢ k → bit_at (bit_or a (2 ^ k)) i ≡ bit_at a i
joined_other a k i n = bit_at_or a (2 ^ k) i ∙ ap (max (bit_at a i)) (bit_at-pow_other k i n) ∙ max_zero (bit_at a i)

joined_bits : (a k i : ℕ) → (nat_eq (bit_at (bit_or a (2 ^ k)) i) 1 ≡ true) ↔ ((i ≡ k) ⊎ (nat_eq (bit_at a i) 1 ≡ true))
joined_bits a k i =
    elim (eqb_tells i k) [
      | inl e ↦ (λ h. inl e.1, λ h. of_bit (bit_or a (2 ^ k)) i (ap (bit_at (bit_or a (2 ^ k))) e.1 ∙ joined_same a k))
      | inr e ↦ (
        λ h. inr (same_bit (bit_or a (2 ^ k)) a i (joined_other a k i e.1) h),
        λ h. elim h [ inl p ↦ absurd (e.1 p) | inr q ↦ same_bit a (bit_or a (2 ^ k)) i (sym (joined_other a k i e.1)) q ],
      )
    ]

-- Adding a number: the others stay.
pub with_number_bits : (m : Mask) (k i : ℕ) → (IsInMask (with_number m k) i) ↔ (((i ≡ k) × (k < 64)) ⊎ IsInMask m i)
with_number_bits m k i =
    let new = cond (nat_lt k 64) (bit_or m.0 (2 ^ k)) m.0 in
    elim (cases_lt k 64) [
      | inl l ↦ let e : new ≡ bit_or m.0 (2 ^ k) = ap (λ b. cond b (bit_or m.0 (2 ^ k)) m.0) (lt-ltb k 64 l) in
          let at = ap (λ x. bit_at x i) e in
          let bits = joined_bits m.0 k i in (
            λ h. elim (bits.0 (same_bit new _ i at h)) [ inl p ↦ inl (p, l) | inr q ↦ inr q ],
            λ h. same_bit _ new i (sym at) (bits.1 (elim h [ inl p ↦ inl p.0 | inr q ↦ inr q ])),
          )
      | inr l ↦ let at = ap (λ x. bit_at x i) (ap (λ b. cond b (bit_or m.0 (2 ^ k)) m.0) (le-ltb k 64 l)) in (
        λ h. inr (same_bit new m.0 i at h),
        λ h. elim h [ inl p ↦ let q = p.1 in absurd (omega (arith, l, q)) | inr q ↦ same_bit m.0 new i (sym at) q ],
      )
    ]

-- The numbers in both.
min_one : (x y : ℕ) → x < 2 → y < 2 → min x y ≡ 1 → (x ≡ 1) × (y ≡ 1)
min_one x y l m e = (omega (arith, l, m, e), omega (arith, l, m, e))

pub meet_bits : (a b : Mask) (i : ℕ) → (IsInMask (meet a b) i) ↔ (IsInMask a i × IsInMask b i)
meet_bits a b i = (
  λ h. let both = min_one (bit_at a.0 i) (bit_at b.0 i) (bit_at-lt a.0 i) (bit_at-lt b.0 i) (sym (bit_at_and a.0 b.0 i) ∙ bit_of (bit_and a.0 b.0) i h) in
      (of_bit a.0 i both.0, of_bit b.0 i both.1),
  λ h. of_bit (bit_and a.0 b.0) i (bit_at_and a.0 b.0 i ∙ ap (λ x. min x (bit_at b.0 i)) (bit_of a.0 i h.0) ∙ ap (min 1) (bit_of b.0 i h.1)),
)

-- The numbers below a bound.
pub first_bits : (n i : ℕ) → (IsInMask (first n) i) ↔ ((i < n) × (i < 64))
first_bits n i =
    elim (cases_lt i (min n 64)) [
      | inl l ↦ (λ h. (omega (arith, l), omega (arith, l)), λ h. of_bit (2 ^ min n 64 - 1) i (bit_at_ones (min n 64) i l))
      | inr l ↦ (
        λ h. let z = sym (bit_at_ones_above (min n 64) i l) ∙ bit_of (2 ^ min n 64 - 1) i h in absurd (omega (arith, z)),
        λ h. let a = h.0 in let b = h.1 in absurd (omega (arith, l, a, b)),
      )
    ]

min_zero : (x : ℕ) → min 0 x ≡ 0
min_zero x = omega arith

-- One mask contains all numbers of the other.
other_than_one : (x : ℕ) → x < 2 → x ≢ 1 → x ≡ 0
other_than_one zero l n = refl
other_than_one (suc zero) l n = absurd (n refl)
other_than_one (suc (suc x)) l n = absurd (omega (arith, l))

zero_or_one : (x : ℕ) → x < 2 → (x ≡ 1) ⊎ (x ≡ 0)
zero_or_one x l = elim (eqb_tells x 1) [ inl e ↦ inl e.1 | inr e ↦ inr (other_than_one x l e.1) ]

each_bit : (a b : Mask) (i : ℕ) → (IsInMask a i → IsInMask b i) → bit_at (bit_and a.0 b.0) i ≡ bit_at a.0 i
each_bit a b i h =
    elim (zero_or_one (bit_at a.0 i) (bit_at-lt a.0 i)) [
      | inl e ↦ bit_at_and a.0 b.0 i ∙ ap (min (bit_at a.0 i)) (bit_of b.0 i (h (of_bit a.0 i e))) ∙ ap (λ x. min x 1) e ∙ sym e
      | inr e ↦ bit_at_and a.0 b.0 i ∙ ap (λ x. min x (bit_at b.0 i)) e ∙ min_zero (bit_at b.0 i) ∙ sym e
    ]

pub within_bits : (a b : Mask) → (IsTrue (within a b)) ↔ ((i : ℕ) → IsInMask a i → IsInMask b i)
within_bits a b = (
  λ h i p. ((meet_bits a b i).0 (same_bit a.0 (bit_and a.0 b.0) i (ap (λ x. bit_at x i) (sym (eqb-true (bit_and a.0 b.0) a.0 h))) p)).1,
  λ h. eq-eqb (bit_and a.0 b.0) a.0 (same_from_bits (bit_and a.0 b.0) a.0 (λ i. each_bit a b i (h i))),
)

-- The numbers in either.
max_either : (x y : ℕ) → x < 2 → max x y ≡ 1 → (x ≡ 1) ⊎ (y ≡ 1)
max_either x y l m = elim (zero_or_one x l) [ inl e ↦ inl e | inr e ↦ inr (omega (arith, e, m)) ]

one_left : (x y : ℕ) → y < 2 → x ≡ 1 → max x y ≡ 1
one_left x y l e = omega (arith, l, e)

one_right : (x y : ℕ) → x < 2 → y ≡ 1 → max x y ≡ 1
one_right x y l e = omega (arith, l, e)

pub join_bits : (a b : Mask) (i : ℕ) → (IsInMask (join a b) i) ↔ (IsInMask a i ⊎ IsInMask b i)
join_bits a b i = (
  λ h. elim (max_either (bit_at a.0 i) (bit_at b.0 i) (bit_at-lt a.0 i) (sym (bit_at_or a.0 b.0 i) ∙ bit_of (bit_or a.0 b.0) i h)) [ inl e ↦ inl (of_bit a.0 i e) | inr e ↦ inr (of_bit b.0 i e) ],
  λ h. of_bit (bit_or a.0 b.0) i (bit_at_or a.0 b.0 i ∙ elim h [ inl p ↦ one_left (bit_at a.0 i) (bit_at b.0 i) (bit_at-lt b.0 i) (bit_of a.0 i p) | inr q ↦ one_right (bit_at a.0 i) (bit_at b.0 i) (bit_at-lt a.0 i) (bit_of b.0 i q) ]),
)
