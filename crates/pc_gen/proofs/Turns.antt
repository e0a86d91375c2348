-- The turns of the schedule of a generated program, and their number.
use Rattle.std.proofs.{Common.{◌≡◌, ◌≤◌, ℕ, zero, suc, ◌+◌, ◌*◌, List, [], ◌∷◌, ◌++◌, map, refl, sym, ap, ◌∙◌, arith}, lemmas.List.FromFn.map-range_with_len_more}
use Rattle.std.specs.List.{range_with_len}
use Rattle.pc_sched.specs.{Schedules.{turn_limit, total}, declared.turns.Turn.Turn}
use Rattle.pc_gen.specs.Generated.{schedule}

-- 400 turns of the actor after this number
abbrev pub own_turns : ℕ → Turn
own_turns i = record { actor = i + 1; times = 400 }

total_append : (ts us : List Turn) → total (ts ++ us) ≡ total ts + total us
total_append [] us = omega arith
total_append (t ∷ ts) us = omega (arith, total_append ts us)

total_own : (first count : ℕ) → total (map own_turns (range_with_len first count)) ≡ count * 400
total_own first zero = refl
total_own first (suc count) = omega (arith, total_own (first + 1) count)

pub few : (size : ℕ) → size ≤ 900 → total (schedule size) ≤ turn_limit
few size within =
    let all = total_append (map own_turns (range_with_len 0 (size + 1))) (record { actor = 0; times = size + 1 } ∷ []) in
    omega (arith, within, all, total_own 0 (size + 1))

-- After the turns up to this number come those with this number.
pub one_more : (i : ℕ) (ts : List Turn) → ts ≡ map own_turns (range_with_len 0 i) → ts ++ own_turns i ∷ [] ≡ map own_turns (range_with_len 0 (i + 1))
one_more i ts same = ap (λ (l : List Turn). l ++ own_turns i ∷ []) same ∙ sym (map-range_with_len_more own_turns 0 i i (omega arith))
