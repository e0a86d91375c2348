-- The ones of a number, and the names at their places.
use Rattle.std.proofs.{Common.{◌≡◌, ℕ, zero, suc, ◌<◌, ◌≤◌, List, [], ◌∷◌, length, get_or, map, Some, Bool, true, false, cond, nat_eq, count_by, count_ones, refl, sym, ap, ◌∙◌, arith, inl, inr}, lemmas.Bool.cases_lt, lemmas.Option.{same_Some, none-some}, lemmas.Nat.Bits.{bit_at-lt, same_from_bits}, lemmas.Simd.{bit_mask_l, ones-mask_l}}
use Rattle.std.specs.{Prelude.slice_get, Int.bit_at}
use lib.Lanes.{mask_l}
use Rattle.pc_masks.specs.{declared.mask.Mask.Mask, Masks.has}
use Rattle.pc_base.proofs.{Bools.true_false, Gets.get_within}
use Rattle.pc_base.specs.Lists.{Text}

bit_is : (n : ℕ) → n < 2 → (b : Bool) → nat_eq n 1 ≡ b → n ≡ cond b 1 0
bit_is zero l true e = absurd (true_false (sym e))
bit_is zero l false e = refl
bit_is (suc zero) l true e = refl
bit_is (suc zero) l false e = absurd (true_false e)
bit_is (suc (suc n)) l b e = absurd (omega (arith, l))

or_there : (p : Text → Bool) (xs : List Text) (i : ℕ) (x : Text) → slice_get xs i ≡ Some x → get_or (map p xs) i false ≡ p x
or_there p [] i x h = absurd (none-some x h)
or_there p (y ∷ xs) zero x h = ap p (same_Some y x h)
or_there p (y ∷ xs) (suc i) x h = or_there p xs i x h

or_past : (p : Text → Bool) (xs : List Text) (i : ℕ) → length xs ≤ i → get_or (map p xs) i false ≡ false
or_past p [] i l = refl
or_past p (y ∷ xs) zero l = absurd (omega (arith, l))
or_past p (y ∷ xs) (suc i) l = or_past p xs i (omega (arith, l))

-- A mask with the places of the names that pass a test has as many ones as there are such names.
pub count_places : (m : Mask) (p : Text → Bool) (xs : List Text) → ((i : ℕ) (x : Text) → slice_get xs i ≡ Some x → has m i ≡ p x) → ((i : ℕ) → length xs ≤ i → has m i ≡ false) → count_ones m.0 ≡ count_by p xs
count_places m p xs there past =
    ap count_ones (same_from_bits m.0 (mask_l (map p xs)) (λ i. bit_is (bit_at m.0 i) (bit_at-lt m.0 i) (get_or (map p xs) i false) (each i) ∙ sym (bit_mask_l (map p xs) i))) ∙ ones-mask_l p xs
  where
    each : (i : ℕ) → has m i ≡ get_or (map p xs) i false
    each i = elim (cases_lt i (length xs)) [
      | inl l ↦ let g = get_within xs i l in there i g.0 g.1 ∙ sym (or_there p xs i g.0 g.1)
      | inr l ↦ past i l ∙ sym (or_past p xs i l)
    ]
