-- From the result of reading a schedule to its stages.
use Rattle.std.proofs.Common.{◌≡◌, ◌≤◌, List, Ok, refl}
use Rattle.pc_sched.specs.{Schedules.{turn_limit, TurnList, total}, declared.turns.Turn.Turn}
use Rattle.pc_base.specs.Lists.{Text}
use Rattle.pc_refusals.specs.{Source.After.goes, Verdict.{Reading, whole}, Source.ScheduleStage, Source.Scheduling.scheduled, Source.Length.fits}

-- The schedule was read whole, and its words are these turns.
pub schedule_says : {name : Text} {r : Reading} {turns : List Turn} → ScheduleStage name r (Ok turns) → (bytes : Text) × (r ≡ whole bytes) × TurnList bytes turns
schedule_says (goes (fits {bytes = b} l) (scheduled t)) = (b, refl, t)

-- The turns of a schedule are not too many.
pub few_turns : {name : Text} {r : Reading} {turns : List Turn} → ScheduleStage name r (Ok turns) → total turns ≤ turn_limit
few_turns (goes (fits l) (scheduled t)) = t.1
