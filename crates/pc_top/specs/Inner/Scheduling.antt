-- How reading a source that must be accepted, and then a schedule, ended.
use Rattle.std.specs.Prelude.{Result, MatchResult}
use Rattle.pc_base.specs.Lists.{Text}
use Rattle.pc_sched.specs.Schedules.{schedule_limit}
use Rattle.pc_refusals.specs.{Source.{AcceptedStage, ScheduleStage, source_limit}, Inner.TwoFiles.{BothGive, OneStops}, Verdict.{Files, named}, declared.stop.Stop.Stop}
use Rattle.pc_top.specs.declared.scheduled.Scheduled.{Scheduled}

abbrev pub ScheduledEnds : Files → Text → Text → Result Scheduled Stop → Type 0
ScheduledEnds files source schedule result =
    MatchResult result
    (λ read. BothGive source_limit schedule_limit (AcceptedStage source) (ScheduleStage schedule) (named files source) (named files schedule) read.accepted read.turns)
    (OneStops source_limit schedule_limit (AcceptedStage source) (ScheduleStage schedule) (named files source) (named files schedule))
