-- The value of digits, one after the other.
use Rattle.std.proofs.{Common.{◌≡◌, ℕ, ◌+◌, ◌-◌, ◌*◌, ◌<◌, ◌≤◌, List, [], ◌∷◌, length, get_or, drop, ap, arith}, lemmas.List.{drop_more, drop_all}}
use Rattle.pc_sched.specs.Schedules.{decimal_value}

pub value_at : (digits : List ℕ) (i acc : ℕ) → i < length digits → decimal_value acc (drop i digits) ≡ decimal_value (acc * 10 + (get_or digits i 0 - 48)) (drop (i + 1) digits)
value_at digits i acc within = ap (decimal_value acc) (drop_more digits i 0 within)

pub value_all : (digits : List ℕ) (i acc : ℕ) → length digits ≤ i → decimal_value acc (drop i digits) ≡ acc
value_all digits i acc past = ap (decimal_value acc) (drop_all i digits past)

pub value_grows : (digits : List ℕ) (acc : ℕ) → acc ≤ decimal_value acc digits
value_grows [] acc = omega arith
value_grows (b ∷ bs) acc = omega (arith, value_grows bs (acc * 10 + (b - 48)))
