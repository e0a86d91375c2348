-- Laws of adjacent runs.
use Rattle.std.specs.Prelude.{◌≡◌, ℕ, zero, suc, ◌+◌, ◌<◌, ◌≤◌, List, [], ◌∷◌, ◌++◌, Some, slice_get, refl}
use Rattle.std.proofs.{Common.{inl, inr, sym, subst, arith}, lemmas.Option.{same_Some, none-some}, lemmas.Bool.cases_lt}
use Rattle.pc_base.specs.Lists.{Follow}

-- Runs are between the number with which they begin and the one with which they end.
follow_le : (at : ℕ) (runs : List (ℕ × ℕ)) (last : ℕ) → Follow at runs last → at ≤ last
follow_le at [] last p = omega (arith, p)
follow_le at (run ∷ runs) last p = let k = follow_le (at + run.1) runs last p.1 in omega (arith, k)

pub run_within : (at : ℕ) (runs : List (ℕ × ℕ)) (last i : ℕ) (run : ℕ × ℕ) → Follow at runs last → slice_get runs i ≡ Some run → (at ≤ run.0) × (run.0 + run.1 ≤ last)
run_within at [] last i run p e = absurd (none-some run e)
run_within at (q ∷ qs) last zero run p e =
    let k = follow_le (at + q.1) qs last p.1 in
    let first = p.0 in
    subst (λ (r : ℕ × ℕ). (at ≤ r.0) × (r.0 + r.1 ≤ last)) (same_Some q run e) (omega (arith, first), omega (arith, first, k))
run_within at (q ∷ qs) last (suc i) run p e =
    let k = run_within (at + q.1) qs last i run p.1 e in
    let l = k.0 in
    (omega (arith, l), k.1)

-- Each number in between is in one of the runs.
pub run_around : (at : ℕ) (runs : List (ℕ × ℕ)) (last n : ℕ) → Follow at runs last → at ≤ n → n < last → (i : ℕ) × (run : ℕ × ℕ) × (slice_get runs i ≡ Some run) × (run.0 ≤ n) × (n < run.0 + run.1)
run_around at [] last n p l m = absurd (omega (arith, p, l, m))
run_around at (q ∷ qs) last n p l m =
    let first = p.0 in
    elim (cases_lt n (at + q.1)) [
      | inl k ↦ (0, q, refl, omega (arith, first, l), omega (arith, first, k))
      | inr k ↦ let r = run_around (at + q.1) qs last n p.1 k m in (suc r.0, r.1, r.2, r.3, r.4)
    ]

-- Adjacent runs, one list of them after the other.
pub follow_append : (at : ℕ) (runs more : List (ℕ × ℕ)) (middle last : ℕ) → Follow at runs middle → Follow middle more last → Follow at (runs ++ more) last
follow_append at [] more middle last p q = subst (λ n. Follow n more last) (sym p) q
follow_append at (run ∷ runs) more middle last p q = (p.0, follow_append (at + run.1) runs more middle last p.1 q)
