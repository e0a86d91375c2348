-- The steps of a schedule's turns are not too many.
use Rattle.std.proofs.Common.{◌≡◌, ◌≤◌, ℕ, List, length, ap, arith}
use Rattle.pc_run.specs.Spreading.{spread}
use Rattle.pc_sched.specs.{Schedules.{turn_limit, total}, declared.turns.Turn.Turn}
use Rattle.pc_sched_lines.proofs.Spreads.{length-spread}

pub few_steps : (turns : List Turn) (list : List ℕ) → list ≡ spread turns → total turns ≤ turn_limit → length list ≤ turn_limit
few_steps turns list is few =
    let same = ap (λ (l : List ℕ). length l) is in
    let count = length-spread turns in
    omega (arith, same, count, few)
