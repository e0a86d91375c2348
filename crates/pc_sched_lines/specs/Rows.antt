-- Steps as rows of turns, which the code writes one by one.
use Rattle.std.specs.{Prelude.{◌≡◌, ℕ, ◌<◌, ◌^◌, List}, List.AllByRecursion}
use Rattle.pc_sched.specs.declared.turns.Turn.{Turn}
use Rattle.pc_run.specs.Spreading.{spread}
use Rattle.pc_sched_lines.specs.Lines.{AreRows, IsLine}

-- Its numbers are allowed in a schedule.
abbrev pub Fits : Turn → Type 0
Fits turn = (turn.actor < 2 ^ 32) × (turn.times < 2 ^ 32)

-- The steps of a list in rows.
pub record RowsOf (list : List ℕ) (turns : List Turn) : Type 0 where
  pub steps : spread turns ≡ list
  pub rows : AreRows turns
  pub fit : AllByRecursion Fits turns

-- A list of steps has at most one such line.
abbrev pub LinesAreOne : Type 0
LinesAreOne = (list one other : List ℕ) → IsLine list one → IsLine list other → one ≡ other
