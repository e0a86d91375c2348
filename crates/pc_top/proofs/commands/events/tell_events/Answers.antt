use Rattle.std.proofs.{Common.{List, inl, inr}, lemmas.Result.err_from_is_err_and}
use Rattle.pc_run.specs.Spreading.{spread}
use Rattle.pc_sched.specs.{Schedules.schedule_limit, declared.turns.Turn.Turn}
use Rattle.pc_refusals.specs.{Source.{AcceptedStage, ScheduleStage, source_limit}, Verdict.{files_change, named, EndsWith}, declared.typing.Accepted.Accepted}
use Rattle.pc_refusals.proofs.{Ending.{both_answer, both_stop, last_ends}, Scheduled.few_turns}
use Rattle.pc_commands.specs.Events.{EventsTelling}
use Rattle.pc_top.specs.Shapes.{UnreadScheduled}
use Rattle.pc_top.proofs.Deriving.{accepted_core_safe}
use Rattle.pc_top.proofs.commands.events.tell_events.Goals as goal

pub returns-in_err-read-clause-answers : goal.returns-in_err-read-clause-answers
returns-in_err-read-clause-answers g c =
    let p = err_from_is_err_and c.from_residual.result c.from_residual.ensures.1 in
    let s = c.args.source.now in
    let d = c.args.schedule.now in
    let files = files_change (g.F.Files.bytes c.args.files.now) (g.F.Files.faults c.args.files.now) (g.F.Files.faults c.read_scheduled.new.files) (g.F.Files.taken c.read_scheduled.new.files) in
    rw (p.1, p.2) (both_stop source_limit schedule_limit (AcceptedStage s) (ScheduleStage d) (λ (a : Accepted) (turns : List Turn). EndsWith (EventsTelling d a.source.core (spread turns))) _ (named files s) (named files d) _ (λ n f. inl f) (λ n p f. inr (p, f)) c.in_err-read.ensures.reads)

pub tell_turns-requires-clause-safe : goal.tell_turns-requires-clause-safe
tell_turns-requires-clause-safe g c = accepted_core_safe c.cores_of_sources_are_formed.ensures c.valid_is_safe.ensures c.in_ok-read.ensures.reads.0.2

pub tell_turns-requires-clause-few : goal.tell_turns-requires-clause-few
tell_turns-requires-clause-few g c = rw c.as_slice.ensures (few_turns c.in_ok-read.ensures.reads.1.2)

pub returns-clause-answers : goal.returns-clause-answers
returns-clause-answers g c =
    let s = c.args.source.now in
    let d = c.args.schedule.now in
    let files = files_change (g.F.Files.bytes c.args.files.now) (g.F.Files.faults c.args.files.now) (g.F.Files.faults c.read_scheduled.new.files) (g.F.Files.taken c.read_scheduled.new.files) in
    let read = c.in_ok-read.read in
    both_answer source_limit schedule_limit (AcceptedStage s) (ScheduleStage d) (λ (a : Accepted) (turns : List Turn). EndsWith (EventsTelling d a.source.core (spread turns))) (UnreadScheduled (named files s) (named files d)) (named files s) (named files d) read.accepted read.turns c.in_ok-read.ensures.reads c.tell_turns.result
    (last_ends (EventsTelling d read.accepted.source.core (spread read.turns)) (λ n. ⊥) c.tell_turns.result
    (rw (← c.as_slice.ensures) c.tell_turns.ensures))
