-- Sums of prefixes of a list.
use Rattle.std.specs.Prelude.{◌≡◌, ℕ, ◌+◌, ◌*◌, ◌<◌, ◌≤◌, ◌^◌, ◌⊎◌, List, [], ◌∷◌, ◌++◌, length, take, sum}

-- The prefix sums pass `wanted` at this place: with the number there they exceed it, and before it they do not.
pub record FallsOn (numbers : List ℕ) (wanted place : ℕ) : Type 0 where
  pub there : place < length numbers
  pub before : sum (take place numbers) ≤ wanted
  pub passes : wanted < sum (take (place + 1) numbers)

-- how many numbers are summed in one group
abbrev pub group : ℕ
group = 64

-- Each of the upper numbers is the sum of the next 64 lower ones, and there are enough of them for all.
pub record Summed (upper lower : List ℕ) : Type 0 where
  pub sums : (n : ℕ) → sum (take n upper) ≡ sum (take (group * n) lower)
  pub covers : length lower ≤ group * length upper
  pub tight : group * length upper ≤ length lower + group

-- What a tally keeps: sums of groups, of blocks of these, and of all.
pub record IsTally (numbers groups blocks : List ℕ) (total : ℕ) : Type 0 where
  pub few : length numbers ≤ 2 ^ 32
  pub total_is : total ≡ sum numbers
  pub small : total < 2 ^ 32
  pub groups_are : Summed groups numbers
  pub blocks_are : Summed blocks groups

-- The list is the old one, perhaps with a 0 appended.
abbrev pub IsLonger : (old new : List ℕ) → Type 0
IsLonger old new = (new ≡ old) ⊎ (new ≡ old ++ 0 ∷ [])
