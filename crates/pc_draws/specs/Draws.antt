-- The pseudorandom numbers drawn from a seed.
use Rattle.std.specs.Prelude.{ℕ, zero, suc, ◌+◌, ◌*◌, ◌/◌, ◌%◌, ◌^◌}

-- the state after the next draw
abbrev pub next : ℕ → ℕ
next x = (1103515245 * x + 12345) % 2 ^ 31

-- the state after `draws` draws
abbrev pub state : (seed draws : ℕ) → ℕ
state seed zero = seed % 2 ^ 31
state seed (suc k) = next (state seed k)

-- the number below `below` that a state yields
abbrev pub high : (drawn below : ℕ) → ℕ
high x n = (x / 65536) % n

-- the draw number `number`, counted from 0, of a number below `below`
abbrev pub draw : (seed number below : ℕ) → ℕ
draw seed k n = high (state seed (suc k)) n
