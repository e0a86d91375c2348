-- The laws of turns and faults.
use Rattle.std.specs.Prelude.{◌≡◌, ℕ, List, ◌⊎◌}
use Rattle.pc_sched.specs.{declared.turns.Turn.Turn, declared.fault.SchedFault.SchedFault, Schedules.{Turns, TurnList, FirstScheduleFault}}

-- A text spells at most one list of turns.
abbrev pub OneList : Type 0
OneList = (text : List ℕ) (one other : List Turn) → Turns text one → Turns text other → one ≡ other

-- A text spells turns within the limit, or has a first fault.
abbrev pub ListOrFault : Type 0
ListOrFault = (text : List ℕ) → ((turns : List Turn) × TurnList text turns) ⊎ ((f : SchedFault) × FirstScheduleFault text f)

-- It does not have both.
abbrev pub NotBoth : Type 0
NotBoth = (text : List ℕ) (turns : List Turn) (f : SchedFault) → TurnList text turns → FirstScheduleFault text f → ⊥

-- A text has at most one first fault.
abbrev pub OneFault : Type 0
OneFault = (text : List ℕ) (one other : SchedFault) → FirstScheduleFault text one → FirstScheduleFault text other → one ≡ other
