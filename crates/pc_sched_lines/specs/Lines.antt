-- A list of steps as the text of a schedule.
use Rattle.std.specs.Prelude.{◌≡◌, ◌≢◌, ℕ, ◌<◌, List, [], ◌∷◌, ⊤, ◌==◌, ◌++◌, if◌then◌else◌, decimal}
use Rattle.pc_sched.specs.{declared.turns.Turn.Turn, Schedules.TurnList}
use Rattle.pc_run.specs.Spreading.{spread}

-- The turn is of a different actor than the first of these.
abbrev pub HasOtherActor : Turn → List Turn → Type 0
HasOtherActor turn [] = ⊤
HasOtherActor turn (next ∷ more) = turn.actor ≢ next.actor

-- Each turn has a step, and no two successive turns are of one actor. So none of them could be longer.
abbrev pub AreRows : List Turn → Type 0
AreRows [] = ⊤
AreRows (turn ∷ turns) = (0 < turn.times) × HasOtherActor turn turns × AreRows turns

-- ---- the text

-- The word of a turn: its actor's number, followed by `*` and its times unless these are 1. No number has leading
-- zeros.
abbrev pub turn_word : Turn → List ℕ
turn_word turn = if turn.times == 1 then decimal turn.actor else decimal turn.actor ++ 42 ∷ decimal turn.times

-- The words of turns, each after one blank, and a line end.
abbrev pub more_words : List Turn → List ℕ
more_words [] = 10 ∷ []
more_words (turn ∷ turns) = 32 ∷ (turn_word turn ++ more_words turns)

-- The words of turns with one blank between any two, and a line end.
abbrev pub line_of : List Turn → List ℕ
line_of [] = 10 ∷ []
line_of (turn ∷ turns) = turn_word turn ++ more_words turns

-- The text is one line of a schedule with these steps, in which each maximal row of steps of one actor is one word.
pub record IsLine (list text : List ℕ) : Type 0 where
  pub turns : List Turn
  pub spells : TurnList text turns
  pub steps : spread turns ≡ list
  pub rows : AreRows turns
  pub line : text ≡ line_of turns
