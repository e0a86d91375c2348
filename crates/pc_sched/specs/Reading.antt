-- How the first piece of a text is read.
use Rattle.std.specs.{Prelude.{◌≡◌, ℕ, ◌+◌, ◌^◌, ◌<◌, ◌≤◌, nat_lt, Bool, ◌||◌, ◌==◌, List, [], ◌∷◌, ◌++◌, length, take, drop, Option, Some, None, if◌then◌else◌, ⊤, ◌⊎◌}, List.prefix_len, Char.is_ascii_digit}
use Rattle.pc_sched.specs.{declared.turns.Turn.Turn, declared.fault.SchedFault.SchedFault, Schedules.{turn_limit, no_blank, decimal_value}}
use Rattle.pc_sched.specs.declared.fault.SchedFault.TheVariants as fault

abbrev pub below : ℕ → Option ℕ
below v = if nat_lt v (2 ^ 32) then Some v else None

-- whether a text is anything but one to ten digits
abbrev pub no_digits : List ℕ → Bool
no_digits b = length b == 0 || nat_lt 10 (length b) || nat_lt (prefix_len is_ascii_digit b) (length b)

-- the number that a text spells
unfoldable pub number_of : List ℕ → Option ℕ
number_of b = if no_digits b then None else below (decimal_value 0 b)

abbrev pub turn_with : ℕ → Option ℕ → Option Turn
turn_with actor None = None
turn_with actor (Some times) = Some record { actor = actor; times = times }

abbrev pub turn_at : Option ℕ → List ℕ → Option Turn
turn_at None rest = None
turn_at (Some actor) [] = turn_with actor (Some 1)
turn_at (Some actor) (b ∷ bs) = if b == 42 then turn_with actor (number_of bs) else None

-- the turn that a word spells
unfoldable pub turn_of : List ℕ → Option Turn
turn_of b = let n = prefix_len is_ascii_digit b in turn_at (number_of (take n b)) (drop n b)

-- a number, if it is below 2 ^ 32
abbrev pub BelowOrNone32 : Option ℕ → ℕ → Type 0
BelowOrNone32 None v = 2 ^ 32 ≤ v
BelowOrNone32 (Some x) v = (x ≡ v) × (v < 2 ^ 32)

-- the word at a place
abbrev pub word_at : List ℕ → ℕ → List ℕ
word_at text at = take (prefix_len no_blank (drop at text)) (drop at text)

-- A blank was skipped, or a word read: where it ends, how many turns there are then, and the turns.
abbrev pub Steps : List ℕ → (at total : ℕ) → (old new : List Turn) → ℕ × ℕ → Type 0
Steps text at total old new r =
    ((prefix_len no_blank (drop at text) ≡ 0) × (r ≡ (at + 1, total)) × (new ≡ old))
    ⊎ ((turn : Turn) × (0 < prefix_len no_blank (drop at text)) × (turn_of (word_at text at) ≡ Some turn) × (total + turn.times ≤ turn_limit)
    × (r ≡ (at + prefix_len no_blank (drop at text), total + turn.times)) × (new ≡ old ++ turn ∷ []))

-- the step has this fault
abbrev pub Stuck : List ℕ → (at total : ℕ) → SchedFault → Type 0
Stuck text at total (fault.BadWord p) = (p ≡ at) × (0 < prefix_len no_blank (drop at text)) × (turn_of (word_at text at) ≡ None)
Stuck text at total (fault.TooMany p) = (p ≡ at) × (0 < prefix_len no_blank (drop at text)) × (turn : Turn) × (turn_of (word_at text at) ≡ Some turn) × (turn_limit < total + turn.times)
Stuck text at total fault.Memory = ⊤
