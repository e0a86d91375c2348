-- Numbers that differ: how many there are below a number, and what they are when they are sorted.
use Rattle.std.specs.{Prelude.{◌≡◌, ℕ, ◌<◌, ◌≤◌, Bool, true, false, List, length, get_or, nat_eq, Some, IsPermutation, IsSorted, slice_get, refl}, List.{IsDistinct, Contains}, Ordering.nat_cmp}
use Rattle.std.proofs.{Common.{ap, sym, ◌∙◌, arith}, lemmas.Bool.eqb-true, lemmas.Option.{slice_get-get_or, get_or_from_slice_get}, lemmas.List.Sorted.{Contains-permutation, IsPermutation-sym, IsNonDecreasingBy-from_sort}, lemmas.Map.Keys.{IsDistinct-from_apart, IsDistinct-IsPermutation, IsStrictlyIncreasing-from_distinct, sorted_from_strictly_increasing, below_from_sorted}, lemmas.Map.Steps.length-le_from_distinct_below}
use Rattle.pc_base.specs.Lists.{Each, Has, Differ}
use Rattle.pc_base.proofs.Gets.{get_below}
use Rattle.pc_sends.specs.Growth.{Sorts}
use Rattle.pc_sends.proofs.Grows.{any_iff}

apart_if : (xs : List ℕ) (i j d : ℕ) (b : Bool) → Differ xs → i < j → j < length xs → nat_eq (get_or xs i d) (get_or xs j d) ≡ b → b ≡ false
apart_if xs i j d false f l h e = refl
apart_if xs i j d true f l h e =
    let first : i < length xs = omega (arith, l, h) in
    let same : slice_get xs j ≡ Some (get_or xs i d) = slice_get-get_or xs j d h ∙ ap Some (sym (eqb-true (get_or xs i d) (get_or xs j d) e)) in
    let bad = f i j (get_or xs i d) (slice_get-get_or xs i d first) same in
    absurd (omega (arith, bad, l))

distinct : (xs : List ℕ) → Differ xs → IsDistinct nat_eq xs
distinct xs f = IsDistinct-from_apart nat_eq xs (λ i j d l h. apart_if xs i j d (nat_eq (get_or xs i d) (get_or xs j d)) f l h refl)

-- ---- how many

pub differ_few : (xs : List ℕ) (n : ℕ) → Differ xs → Each (λ i t. t < n) xs → length xs ≤ n
differ_few xs n d below = length-le_from_distinct_below xs n (distinct xs d) (λ q h. let m = (any_iff q xs).0 h in below m.0 q m.1)

-- ---- sorted

has_contains : (xs : List ℕ) (t : ℕ) → Has xs t → Contains xs t
has_contains xs t h = (h.0, get_below xs h.0 t h.1, get_or_from_slice_get xs h.0 t t h.1)

contains_has : (xs : List ℕ) (t : ℕ) → Contains xs t → Has xs t
contains_has xs t c = (c.0, slice_get-get_or xs c.0 t c.1 ∙ ap Some c.2)

flips : (x y : ℕ) → nat_eq x y ≡ nat_eq y x
flips x y = search (arith)

rises : (xs ys : List ℕ) → Differ xs → IsPermutation xs ys → IsSorted nat_cmp ys → (i j d : ℕ) → i < j → j < length ys → get_or ys i d < get_or ys j d
rises xs ys f p s i j d l h =
    let apart : IsDistinct nat_eq ys = IsDistinct-IsPermutation nat_eq flips xs ys p (distinct xs f) in
    let up = IsStrictlyIncreasing-from_distinct ys (IsNonDecreasingBy-from_sort (λ x. x) ys s) apart in
    below_from_sorted ys i j d (sorted_from_strictly_increasing ys up) l h

pub sorts : (xs ys : List ℕ) → Differ xs → IsPermutation xs ys → IsSorted nat_cmp ys → Sorts xs ys
sorts xs ys f p s = record {
  ascends = λ i j a b l e g.
      let high = get_below ys j b g in
      let up = rises xs ys f p s i j 0 l high in
      let low = get_or_from_slice_get ys i a 0 e in
      let last = get_or_from_slice_get ys j b 0 g in
      omega (arith, up, low, last);
  same = λ t. (
    λ h. contains_has xs t (Contains-permutation ys xs t (IsPermutation-sym xs ys p) (has_contains ys t h)),
    λ h. contains_has ys t (Contains-permutation xs ys t p (has_contains xs t h)),
  );
}
