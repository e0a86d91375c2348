-- Sums of prefixes, and how changing one number changes them.
use Rattle.std.proofs.{Common.{◌≡◌, ℕ, zero, suc, ◌+◌, ◌-◌, ◌*◌, ◌/◌, ◌<◌, ◌≤◌, ◌^◌, Bool, true, false, nat_lt, List, [], ◌∷◌, length, take, get_or, set, sum, Some, refl, ap, arith}, Math.Seq.take-set-lt, lemmas.Bool.{ltb-false, ltb-true}, lemmas.List.{get_or-take, length-set, take-set-le, take-take, take_all}, lemmas.List.Sums.{sum_by-set, sum_by-take-le, sum_by_more}, lemmas.Option.get_or_from_slice_get}
use Rattle.std.specs.Prelude.{slice_get}
use Rattle.pc_tally.specs.Sums.{Summed, IsTally, group}

abbrev same : ℕ → ℕ
same x = x

pub sum_step : (xs : List ℕ) (i : ℕ) → i < length xs → sum (take (i + 1) xs) ≡ sum (take i xs) + get_or xs i 0
sum_step xs i l = sum_by_more same xs i 0 l

pub sum_grows : (m n : ℕ) (xs : List ℕ) → m ≤ n → sum (take m xs) ≤ sum (take n xs)
sum_grows m n xs l = let e = ap sum (take-take m n xs l) in let f = sum_by-take-le same (take n xs) m in omega (arith, e, f)

pub sum_step_fits : (xs : List ℕ) (i : ℕ) → i < length xs → sum xs < 2 ^ 32 → sum (take i xs) + get_or xs i 0 < 2 ^ 32
sum_step_fits xs i l few = let e = sum_step xs i l in let f = sum_by-take-le same xs (i + 1) in omega (arith, e, f, few)

pub sum_all : (n : ℕ) (xs : List ℕ) → length xs ≤ n → sum (take n xs) ≡ sum xs
sum_all n xs l = ap sum (take_all n xs l)

-- ---- replacing the number at a place

shorter : (n : ℕ) (xs : List ℕ) (i : ℕ) → i < length xs → i < n → i < length (take n xs)
shorter zero xs i l m = absurd (omega (arith, m))
shorter (suc n) [] i l m = absurd (omega (arith, l))
shorter (suc n) (x ∷ xs) zero l m = omega arith
shorter (suc n) (x ∷ xs) (suc i) l m = let r = shorter n xs i (omega (arith, l)) (omega (arith, m)) in omega (arith, r)

sum_set_behind : (n : ℕ) (xs : List ℕ) (i v : ℕ) → i < length xs → i < n → sum (take n (set xs i v)) + get_or xs i 0 ≡ sum (take n xs) + v
sum_set_behind n xs i v there before =
    let cut = ap sum (take-set-lt n xs i v before) in
    let changed = sum_by-set same (take n xs) i v 0 (shorter n xs i there before) in
    let same_there = get_or-take n xs i 0 before in
    omega (arith, changed, same_there, cut)

sum_set_before : (n : ℕ) (xs : List ℕ) (i v : ℕ) → n ≤ i → sum (take n (set xs i v)) ≡ sum (take n xs)
sum_set_before n xs i v l = ap sum (take-set-le n xs i v l)

pub sums_total : (upper lower : List ℕ) → Summed upper lower → sum upper ≡ sum lower
sums_total upper lower s =
    let a = sum_all (length upper) upper (omega arith) in
    let c = s.covers in
    let b = sum_all (group * length upper) lower c in
    let e = s.sums (length upper) in
    omega (arith, a, b, e)

pub groups_total : (numbers groups blocks : List ℕ) (total : ℕ) → IsTally numbers groups blocks total → sum groups ≡ total
groups_total numbers groups blocks total t = let e = sums_total groups numbers t.groups_are in let f = t.total_is in omega (arith, e, f)

pub blocks_total : (numbers groups blocks : List ℕ) (total : ℕ) → IsTally numbers groups blocks total → sum blocks ≡ total
blocks_total numbers groups blocks total t = let e = sums_total blocks groups t.blocks_are in let f = groups_total numbers groups blocks total t in omega (arith, e, f)

-- ---- the same in the sums of groups

module _ (upper lower : List ℕ) (s : Summed upper lower) (i : ℕ) (there : i < length lower) where
  pub within : i / group < length upper
  within = let c = s.covers in omega (arith, c, there)

  pub holds : get_or lower i 0 ≤ get_or upper (i / group) 0
  holds =
      let here = sum_step lower i there in
      let above = sum_step upper (i / group) within in
      let first = s.sums (i / group) in
      let next = s.sums (i / group + 1) in
      let low = sum_grows (group * (i / group)) i lower (omega arith) in
      let high = sum_grows (i + 1) (group * (i / group + 1)) lower (omega arith) in
      omega (arith, here, above, first, next, low, high)

  pub fits : (total old new : ℕ) → total ≡ sum lower → total + new < 2 ^ 32 + old → get_or upper (i / group) 0 + new < 2 ^ 32 + old
  fits total old new e f =
      let above = sum_step upper (i / group) within in
      let next = s.sums (i / group + 1) in
      let all = sum_by-take-le same lower (group * (i / group + 1)) in
      omega (arith, above, next, all, e, f)

  module _ (old new : ℕ) (had : old ≤ get_or lower i 0) where
    abbrev lower_now : List ℕ
    lower_now = set lower i (get_or lower i 0 - old + new)

    abbrev upper_now : List ℕ
    upper_now = set upper (i / group) (get_or upper (i / group) 0 - old + new)

    sums_now : (n : ℕ) (b : Bool) → nat_lt (i / group) n ≡ b → sum (take n upper_now) ≡ sum (take (group * n) lower_now)
    sums_now n true e =
        let l : i / group < n = ltb-true (i / group) n e in
        let u = sum_set_behind n upper (i / group) (get_or upper (i / group) 0 - old + new) within l in
        let v = sum_set_behind (group * n) lower i (get_or lower i 0 - old + new) there (omega (arith, l)) in
        let h = holds in
        let m = s.sums n in
        omega (arith, u, v, h, m, had)
    sums_now n false e =
        let l : n ≤ i / group = ltb-false (i / group) n e in
        let u = sum_set_before n upper (i / group) (get_or upper (i / group) 0 - old + new) l in
        let v = sum_set_before (group * n) lower i (get_or lower i 0 - old + new) (omega (arith, l)) in
        let m = s.sums n in
        omega (arith, u, v, m)

    pub summed_now : Summed upper_now lower_now
    summed_now = record {
      sums = λ n. sums_now n (nat_lt (i / group) n) refl;
      covers = let c = s.covers in let a = length-set upper (i / group) (get_or upper (i / group) 0 - old + new) in let b = length-set lower i (get_or lower i 0 - old + new) in omega (arith, a, b, c);
      tight = let t = s.tight in let a = length-set upper (i / group) (get_or upper (i / group) 0 - old + new) in let b = length-set lower i (get_or lower i 0 - old + new) in omega (arith, a, b, t);
    }

-- ---- the same in a tally

module _ (numbers groups blocks : List ℕ) (total at old new : ℕ) (t : IsTally numbers groups blocks total) (here : slice_get numbers at ≡ Some old) (there : at < length numbers) where
  is_old : get_or numbers at 0 ≡ old
  is_old = get_or_from_slice_get numbers at old 0 here

  had : old ≤ get_or numbers at 0
  had = omega (arith, is_old)

  in_group : at / group < length groups
  in_group = within groups numbers t.groups_are at there

  pub group_holds : old ≤ get_or groups (at / group) 0
  group_holds = let h = holds groups numbers t.groups_are at there in omega (arith, h, had)

  pub in_block : at / group / group < length blocks
  in_block = within blocks groups t.blocks_are (at / group) in_group

  pub block_holds : old ≤ get_or blocks (at / group / group) 0
  block_holds = let h = holds blocks groups t.blocks_are (at / group) in_group in omega (arith, h, group_holds)

  pub total_holds : old ≤ total
  total_holds = let e = sum_step numbers at there in let f = sum_by-take-le same numbers (at + 1) in let g = t.total_is in omega (arith, e, f, g, had)

  pub number_now : get_or numbers at 0 - old + new ≡ new
  number_now = omega (arith, is_old)

  module _ (few : sum numbers + new < 2 ^ 32 + old) where
    pub tally_now :
        IsTally (set numbers at (get_or numbers at 0 - old + new)) (set groups (at / group) (get_or groups (at / group) 0 - old + new))
        (set blocks (at / group / group) (get_or blocks (at / group / group) 0 - old + new)) (total - old + new)
    tally_now = record {
      few = let n = length-set numbers at (get_or numbers at 0 - old + new) in let f = t.few in omega (arith, n, f);
      total_is = let s = sum_by-set same numbers at (get_or numbers at 0 - old + new) 0 there in let e = t.total_is in let h = total_holds in omega (arith, s, e, h, had);
      small = let e = t.total_is in let h = total_holds in omega (arith, few, e, h);
      groups_are = summed_now groups numbers t.groups_are at there old new had;
      blocks_are = summed_now blocks groups t.blocks_are (at / group) in_group old new group_holds;
    }
