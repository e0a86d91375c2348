-- What reading a schedule may return.
use Rattle.std.specs.Prelude.{◌≡◌, ℕ, List, Result, Err, ◌⊎◌, ⊤}
use Rattle.pc_sched.specs.{declared.turns.Turn.Turn, declared.fault.SchedFault.SchedFault, Schedules.FirstScheduleFault}
use Rattle.pc_sched.specs.declared.fault.SchedFault.TheVariants as fault

-- The fault is the text's first, or memory ran out.
abbrev pub RefusesSchedule : List ℕ → SchedFault → Type 0
RefusesSchedule text fault.Memory = ⊤
RefusesSchedule text f = FirstScheduleFault text f

-- The result is this answer, or memory ran out.
abbrev pub AnswersSchedule : Result (List Turn) SchedFault → Result (List Turn) SchedFault → Type 0
AnswersSchedule result wanted = (result ≡ wanted) ⊎ (result ≡ Err fault.Memory)
