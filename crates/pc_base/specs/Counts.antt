-- A test counted as a number.
use Rattle.std.specs.Prelude.{ℕ, Bool, cond}

-- 1 if the test holds, else 0.
abbrev pub one_if : Bool → ℕ
one_if b = cond b 1 0
