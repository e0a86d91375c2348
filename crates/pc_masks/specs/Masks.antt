-- Masks: sets of numbers below 64.
use Rattle.std.specs.{Prelude.{ℕ, ◌-◌, ◌^◌, Bool, IsTrue, min, bit_and, bit_or, nat_eq, nat_lt, if◌then◌else◌}, Int.bit_at}
use Rattle.pc_masks.specs.declared.mask.Mask.{Mask}

-- The number is in the mask.
abbrev pub has : Mask → ℕ → Bool
has m i = nat_eq (bit_at m.0 i) 1

abbrev pub IsInMask : Mask → ℕ → Type 0
IsInMask m i = IsTrue (has m i)

-- The empty mask.
abbrev pub empty : Mask
empty = record { 0 = 0 }

-- All numbers below this one.
abbrev pub first : ℕ → Mask
first n = record { 0 = 2 ^ (min n 64) - 1 }

-- The mask with this number added. No mask contains a number past 63.
abbrev pub with_number : Mask → ℕ → Mask
with_number m i = record { 0 = if nat_lt i 64 then bit_or m.0 (2 ^ i) else m.0 }

-- The mask with this number removed.
abbrev pub without_number : Mask → ℕ → Mask
without_number m i = record { 0 = m.0 - bit_and m.0 (2 ^ i) }

-- The numbers in both masks.
abbrev pub meet : Mask → Mask → Mask
meet a b = record { 0 = bit_and a.0 b.0 }

-- The numbers in either mask.
abbrev pub join : Mask → Mask → Mask
join a b = record { 0 = bit_or a.0 b.0 }

-- The second mask contains all numbers of the first.
abbrev pub within : Mask → Mask → Bool
within a b = nat_eq (bit_and a.0 b.0) a.0

-- The two masks contain the same numbers.
abbrev pub same : Mask → Mask → Bool
same a b = nat_eq a.0 b.0
