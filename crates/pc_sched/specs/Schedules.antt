-- The turns that a text spells, and its first fault if it spells none.
--
-- A text is cut into pieces, each a blank or a word. Each word spells a turn.
use Rattle.std.specs.{Prelude.{ℕ, ◌≡◌, ◌+◌, ◌-◌, ◌*◌, ◌<◌, ◌≤◌, ◌^◌, Bool, true, not, ◌||◌, ◌==◌, List, [], ◌∷◌, ◌++◌, length, ◌⊎◌, ⊤}, List.list_all, Char.is_ascii_digit}
use Rattle.pc_sched.specs.{declared.turns.Turn.Turn, declared.fault.SchedFault.SchedFault}
use Rattle.pc_sched.specs.declared.fault.SchedFault.TheVariants as fault

-- how many bytes its text may have
abbrev pub schedule_limit : ℕ
schedule_limit = 1048576

-- how many turns it may have
abbrev pub turn_limit : ℕ
turn_limit = 1000000

-- ---- the turns

-- space, tab, CR, LF
abbrev pub is_separator : ℕ → Bool
is_separator b = b == 32 || b == 9 || b == 13 || b == 10

abbrev pub no_blank : ℕ → Bool
no_blank b = not (is_separator b)

-- a blank, or a word
pub data SchedulePiece : Type 0 where
  blank : ℕ → SchedulePiece
  word : List ℕ → SchedulePiece

abbrev pub piece_bytes : SchedulePiece → List ℕ
piece_bytes (blank b) = b ∷ []
piece_bytes (word b) = b

-- the end of the text, or a blank
abbrev pub AtWordEnd : List ℕ → Type 0
AtWordEnd [] = ⊤
AtWordEnd (b ∷ bs) = is_separator b ≡ true

-- One blank, or all non-blank bytes up to the next blank, before the rest.
abbrev pub IsSchedulePiece : SchedulePiece → List ℕ → Type 0
IsSchedulePiece (blank b) rest = is_separator b ≡ true
IsSchedulePiece (word b) rest = (0 < length b) × (list_all no_blank b ≡ true) × AtWordEnd rest

-- The text is cut into these pieces and the rest.
abbrev pub SchedulePieces : List ℕ → List SchedulePiece → List ℕ → Type 0
SchedulePieces text [] rest = text ≡ rest
SchedulePieces text (p ∷ ps) rest = (mid : List ℕ) × (text ≡ piece_bytes p ++ mid) × IsSchedulePiece p mid × SchedulePieces mid ps rest

-- the number whose first digits give acc and whose next digits are these
abbrev pub decimal_value : ℕ → List ℕ → ℕ
decimal_value acc [] = acc
decimal_value acc (b ∷ bs) = decimal_value (acc * 10 + (b - 48)) bs

-- One to ten digits whose value is below 2^32.
pub record Number (b : List ℕ) (n : ℕ) : Type 0 where
  pub some : 0 < length b
  pub few : length b ≤ 10
  pub digits : list_all is_ascii_digit b ≡ true
  pub is : n ≡ decimal_value 0 b
  pub small : n < 2 ^ 32

-- The word is an actor's number, for one turn, or that number, `*` and a number of turns.
abbrev pub SpellsTurn : List ℕ → Turn → Type 0
SpellsTurn b turn =
    (Number b turn.actor × (turn.times ≡ 1))
    ⊎ ((left right : List ℕ) × (b ≡ left ++ 42 ∷ right) × Number left turn.actor × Number right turn.times)

-- The words among the pieces spell these turns, in their order.
abbrev pub SpelledTurns : List SchedulePiece → List Turn → Type 0
SpelledTurns [] turns = turns ≡ []
SpelledTurns (blank b ∷ ps) turns = SpelledTurns ps turns
SpelledTurns (word b ∷ ps) turns = (turn : Turn) × (more : List Turn) × (turns ≡ turn ∷ more) × SpellsTurn b turn × SpelledTurns ps more

-- the number of turns
abbrev pub total : List Turn → ℕ
total [] = 0
total (turn ∷ turns) = turn.times + total turns

-- The text spells these turns. Their number is not limited.
abbrev pub Turns : List ℕ → List Turn → Type 0
Turns text turns = (ps : List SchedulePiece) × SchedulePieces text ps [] × SpelledTurns ps turns

-- The text spells these turns, and there are not too many.
abbrev pub TurnList : List ℕ → List Turn → Type 0
TurnList text turns = Turns text turns × (total turns ≤ turn_limit)

-- The word is at this place, and everything before it spells these turns, of which there are not too many.
pub record WordAt (text : List ℕ) (at : ℕ) (turns : List Turn) (b : List ℕ) : Type 0 where
  pub pieces : List SchedulePiece
  pub rest : List ℕ
  pub cut : SchedulePieces text pieces (b ++ rest)
  pub stands : IsSchedulePiece (word b) rest
  pub spelled : SpelledTurns pieces turns
  pub few : total turns ≤ turn_limit
  pub place : at + length (b ++ rest) ≡ length text

-- The first fault of a text: the first word that spells no turn, or whose turn exceeds the limit. Running out of memory
-- is not one.
abbrev pub FirstScheduleFault : List ℕ → SchedFault → Type 0
FirstScheduleFault text (fault.BadWord at) = (turns : List Turn) × (b : List ℕ) × WordAt text at turns b × ((turn : Turn) → SpellsTurn b turn → ⊥)
FirstScheduleFault text (fault.TooMany at) = (turns : List Turn) × (b : List ℕ) × WordAt text at turns b × (turn : Turn) × SpellsTurn b turn × (turn_limit < total turns + turn.times)
FirstScheduleFault text fault.Memory = ⊥
