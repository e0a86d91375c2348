-- Accesses that clash, seen from one of them.
use Rattle.std.specs.Prelude.{◌≡◌, ◌<◌, ◌≤◌, ℕ, zero, suc, ◌+◌, ◌-◌, List, [], ◌∷◌, length, get_or, Option, Some, None, slice_get, refl}
use Rattle.std.proofs.{Common.{inl, inr, ap, sym, subst, ◌∙◌, arith}, lemmas.Option.{same_Some, none-some}, lemmas.Bool.Decides.leb_tells}
use Rattle.pc_clocks.specs.Seats.{number}
use Rattle.pc_trace.specs.{declared.touch.Touch.Touch, Clashes.{Clash, IsKnownTo, Unknown, KnownBetween, KnownUpTo, LatestUnknown, FoundOfAccess, FirstUnknown}}
use Rattle.pc_base.proofs.Gets.{get_within}

pub none_counted : (clock : List ℕ) (a : ℕ) → slice_get clock a ≡ None → number clock a ≡ 0
none_counted [] a e = refl
none_counted (n ∷ ns) zero e = absurd (none-some n (sym e))
none_counted (n ∷ ns) (suc a) e = none_counted ns a e

-- What clashes and is not unknown is known.
known_else : (q p : Touch) → (Unknown q p → ⊥) → Clash q p → IsKnownTo q p
known_else q p never c = elim (leb_tells (number q.clock q.actor) (number p.clock q.actor)) [ inl s ↦ s.1 | inr s ↦ absurd (never (c, s.1)) ]

module _ (touches : List Touch) (at : ℕ) (p : Touch) where
  pub nothing_before : (back : ℕ) → back ≡ 0 → KnownBetween touches (at - back) at p
  nothing_before back z m q low high e c = absurd (empty m back z low high)
    where
      empty : (m back : ℕ) → back ≡ 0 → at - back ≤ m → m < at → ⊥
      empty m back z low high = omega (arith, z, low, high)

  -- One more that is known.
  pub one_more : (back : ℕ) (q : Touch) → back < at → slice_get touches (at - 1 - back) ≡ Some q → (Unknown q p → ⊥) → KnownBetween touches (at - back) at p → KnownBetween touches (at - (back + 1)) at p
  one_more back q b is never known m r low high e c =
      elim (leb_tells (at - back) m) [
        | inl s ↦ known m r s.1 high e c
        | inr s ↦
            let same : m ≡ at - 1 - back = here m low s.1 in
            known_else r p (subst (λ (z : Touch). Unknown z p → ⊥) (same_Some q r (sym is ∙ ap (slice_get touches) (sym same) ∙ e)) never) c
      ]
    where
      here : (m : ℕ) → at - (back + 1) ≤ m → m < at - back → m ≡ at - 1 - back
      here m low high = omega (arith, b, low, high)

  pub latest_is : (back : ℕ) (q : Touch) → back < at → slice_get touches (at - 1 - back) ≡ Some q → Unknown q p → KnownBetween touches (at - back) at p → LatestUnknown touches at p (at - 1 - back)
  latest_is back q b is unknown known = record {
    other = q;
    below = omega (arith, b);
    is = is;
    unknown = unknown;
    later = λ m r low high e c. known m r (next m low) high e c;
  }
    where
      next : (m : ℕ) → suc (at - 1 - back) ≤ m → at - back ≤ m
      next m low = omega (arith, b, low)

  pub all_before : (back : ℕ) → at ≤ back → KnownBetween touches (at - back) at p → KnownBetween touches 0 at p
  all_before back b known m q low high e c = known m q (past m) high e c
    where
      past : (m : ℕ) → at - back ≤ m
      past m = omega (arith, b)

module _ (touches : List Touch) (at : ℕ) (p : Touch) (is : slice_get touches at ≡ Some p) (earlier : KnownUpTo touches at) where
  -- One more access counts all earlier ones that clash with it.
  pub up_to_next : KnownBetween touches 0 at p → KnownUpTo touches (at + 1)
  up_to_next known n r b e =
      elim (leb_tells at n) [
        | inl s ↦ let c = s.1 in let same : n ≡ at = omega (arith, b, c) in subst (λ (z : ℕ). KnownBetween touches 0 z r) (sym same) (subst (KnownBetween touches 0 at) (same_Some p r (sym is ∙ ap (slice_get touches) (sym same) ∙ e)) known)
        | inr s ↦ earlier n r s.1 e
      ]

  pub first_is : (m : ℕ) (q : Touch) → slice_get touches m ≡ Some q → LatestUnknown touches at p m → FirstUnknown touches q.place p.place
  first_is m q e l = record { at = at; from = m; one = p; other = q; is = is; is_too = e; first_is = refl; second_is = refl; latest = l; earlier = earlier }

-- ---- by what was found

module _ (touches : List Touch) (at : ℕ) (within : at < length touches) (o : Option ℕ) (found : FoundOfAccess touches at o) where
  -- Nothing was.
  pub known_next : o ≡ None → KnownUpTo touches at → KnownUpTo touches (at + 1)
  known_next none known =
      let p = get_within touches at within in
      let none_found : FoundOfAccess touches at None = subst (FoundOfAccess touches at) none found in
      up_to_next touches at p.0 p.1 known (none_found p.0 p.1)

  module _ (m : ℕ) (is : o ≡ Some m) where
    latest : (p : Touch) → slice_get touches at ≡ Some p → LatestUnknown touches at p m
    latest = let some_found : FoundOfAccess touches at (Some m) = subst (FoundOfAccess touches at) is found in some_found

    pub found_below : m < length touches
    found_below = let p = get_within touches at within in below _ _ _ (latest p.0 p.1).below within
      where
        below : (a b c : ℕ) → a < b → b < c → a < c
        below a b c l n = omega (arith, l, n)

    pub first_found : KnownUpTo touches at → (q p : Touch) → slice_get touches m ≡ Some q → slice_get touches at ≡ Some p → FirstUnknown touches q.place p.place
    first_found known q p e f = first_is touches at p f known m q e (latest p f)

pub touch_there : (touches : List Touch) (at : ℕ) (d : Touch) → at < length touches → slice_get touches at ≡ Some (get_or touches at d)
touch_there [] at d l = absurd (omega (arith, l))
touch_there (x ∷ xs) zero d l = refl
touch_there (x ∷ xs) (suc at) d l = let k : at < length xs = omega (arith, l) in touch_there xs at d k
