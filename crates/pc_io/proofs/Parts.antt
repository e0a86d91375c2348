-- A part of bytes, from a place on and up to a limit.
use Rattle.std.proofs.{Common.{◌≡◌, ◌≤◌, ℕ, zero, suc, List, [], ◌∷◌, length, take, drop, min, refl, sym, ap, ◌∙◌, inl, inr, arith}, lemmas.Bool.cases_lt, lemmas.Slice.{between_to_end, between_from_start}}
use Rattle.std.specs.Prelude.{slice_range}
use Rattle.pc_io.specs.Files.{part_of}

take_past : (xs : List ℕ) (n : ℕ) → length xs ≤ n → take n xs ≡ xs
take_past [] zero h = refl
take_past [] (suc n) h = refl
take_past (x ∷ xs) zero h = absurd (omega (arith, h))
take_past (x ∷ xs) (suc n) h = ap (λ ys. x ∷ ys) (take_past xs n (omega (arith, h)))

drop_past : (xs : List ℕ) (n : ℕ) → length xs ≤ n → drop n xs ≡ []
drop_past [] zero h = refl
drop_past [] (suc n) h = refl
drop_past (x ∷ xs) zero h = absurd (omega (arith, h))
drop_past (x ∷ xs) (suc n) h = drop_past xs n (omega (arith, h))

take_min : (xs : List ℕ) (n : ℕ) → take (min n (length xs)) xs ≡ take n xs
take_min xs n = elim (cases_lt n (length xs)) [
  | inl l ↦ let e : min n (length xs) ≡ n = omega (arith, l) in ap (λ k. take k xs) e
  | inr l ↦ let e : min n (length xs) ≡ length xs = omega (arith, l) in ap (λ k. take k xs) e ∙ take_past xs (length xs) (omega arith) ∙ sym (take_past xs n l)
]

drop_min : (xs : List ℕ) (n : ℕ) → drop (min n (length xs)) xs ≡ drop n xs
drop_min xs n = elim (cases_lt n (length xs)) [
  | inl l ↦ let e : min n (length xs) ≡ n = omega (arith, l) in ap (λ k. drop k xs) e
  | inr l ↦ let e : min n (length xs) ≡ length xs = omega (arith, l) in ap (λ k. drop k xs) e ∙ drop_past xs (length xs) (omega arith) ∙ sym (drop_past xs n l)
]

pub short_part : (bytes : List ℕ) (from limit : ℕ) → length (part_of bytes from limit) ≤ limit
short_part bytes from limit = take_short (drop from bytes) limit
  where
    take_short : (xs : List ℕ) (n : ℕ) → length (take n xs) ≤ n
    take_short [] zero = omega arith
    take_short [] (suc n) = omega arith
    take_short (x ∷ xs) zero = omega arith
    take_short (x ∷ xs) (suc n) = let h = take_short xs n in omega (arith, h)

-- for places that do not pass the end
pub part_is : (bytes : List ℕ) (from limit : ℕ) → slice_range (slice_range bytes (min from (length bytes)) (length bytes)) 0 (min limit (length (slice_range bytes (min from (length bytes)) (length bytes)))) ≡ part_of bytes from limit
part_is bytes from limit =
    let rest = slice_range bytes (min from (length bytes)) (length bytes) in
    let same : rest ≡ drop from bytes = between_to_end bytes (min from (length bytes)) (length bytes) (omega arith) ∙ drop_min bytes from in
    between_from_start rest (min limit (length rest)) ∙ take_min rest limit ∙ ap (take limit) same
