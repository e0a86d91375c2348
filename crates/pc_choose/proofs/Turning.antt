-- The parts of a choice.
use Rattle.std.proofs.{Common.{◌≡◌, ℕ, zero, suc, ◌+◌, ◌-◌, ◌*◌, ◌<◌, ◌≤◌, length, None, ap, ◌∙◌, arith}, lemmas.Option.slice_get_past}
use Rattle.std.specs.Prelude.{slice_get}
use Rattle.pc_semantics.specs.Configurations.{Configuration}
use Rattle.pc_draws.specs.Draws.{next, high, state}
use Rattle.pc_choose.specs.{declared.point.Point.Point, Able.{able_among, able_actors}, Choice.{next_in_round, or_new_round, picks, picked, times, most_times}}

pub past_round : (p : Point) (c : Configuration) → p.round ≤ p.actor → next_in_round p c ≡ None
past_round p c l =
    let e : p.round - (p.actor + 1) ≡ 0 = omega (arith, l) in
    ap (λ (n : ℕ). slice_get (able_among c (p.actor + 1) n) 0) e

pub none_able : (c : Configuration) (place : ℕ) → length (able_actors c) ≡ 0 → slice_get (able_actors c) place ≡ None
none_able c place e = slice_get_past (able_actors c) place (omega (arith, e))

pub is_round : (seed : ℕ) (p : Point) (c : Configuration) → seed ≡ 0 → picked seed p c ≡ or_new_round p c (next_in_round p c)
is_round seed p c e = ap (λ (s : ℕ). picked s p c) e

pub is_drawn : (seed : ℕ) (p : Point) (c : Configuration) (x : ℕ) → 0 < seed → x ≡ state seed (2 * p.turns) → picks (slice_get (able_actors c) (high (next x) (length (able_actors c)))) 0 ≡ picked seed p c
is_drawn zero p c x l e = absurd (omega (arith, l))
is_drawn (suc s) p c x l e = ap (λ (y : ℕ). picks (slice_get (able_actors c) (high (next y) (length (able_actors c)))) 0) e

pub times_are : (seed turn x : ℕ) → 0 < seed → x ≡ next (state seed (2 * turn)) → high (next x) most_times + 1 ≡ times seed turn
times_are zero turn x l e = absurd (omega (arith, l))
times_are (suc s) turn x l e =
    let n : suc (2 * turn) ≡ 2 * turn + 1 = omega arith in
    ap (λ (y : ℕ). high (next y) most_times + 1) (e ∙ ap (state (suc s)) n)

pub twice_more : (seed turns x : ℕ) → x ≡ state seed (2 * turns) → next (next x) ≡ state seed (2 * (turns + 1))
twice_more seed turns x e =
    let n : suc (suc (2 * turns)) ≡ 2 * (turns + 1) = omega arith in
    ap (λ (y : ℕ). next (next y)) e ∙ ap (state seed) n
