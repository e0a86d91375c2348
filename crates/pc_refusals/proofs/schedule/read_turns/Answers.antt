use Rattle.std.proofs.Common.{subst}
use Rattle.pc_sched.specs.Answers.{RefusesSchedule}
use Rattle.pc_refusals.specs.{Source.Scheduling, Source.Scheduling.{bad_word, scheduled, too_many}}
use Rattle.pc_refusals.proofs.Stops.{refusal_stops}
use Rattle.pc_refusals.proofs.schedule.read_turns.Goals as goal

pub returns-in-Ok : goal.returns-in-Ok
returns-in-Ok c = scheduled c.in-Ok.ensures.ok

pub returns-in-Err-BadWord : goal.returns-in-Err-BadWord
returns-in-Err-BadWord c =
    refusal_stops (Scheduling c.args.name.now c.args.bytes.now) 7 _ c.refuse_at.result
    (bad_word c.in-Err-BadWord.at (subst (RefusesSchedule c.args.bytes.now) c.in-Err-BadWord.field-0-is c.in-Err-BadWord.ensures.err)) c.refuse_at.ensures

pub returns-in-Err-TooMany : goal.returns-in-Err-TooMany
returns-in-Err-TooMany c =
    refusal_stops (Scheduling c.args.name.now c.args.bytes.now) 8 _ c.refuse_at-in-Err-TooMany.result
    (too_many c.in-Err-TooMany.at (subst (RefusesSchedule c.args.bytes.now) c.in-Err-TooMany.field-0-is c.in-Err-TooMany.ensures.err)) c.refuse_at-in-Err-TooMany.ensures
