use Rattle.std.proofs.{Common.{List, inl, inr, refl}, lemmas.Result.err_from_is_err_and}
use Rattle.pc_io.specs.Sink.{change}
use Rattle.pc_run.specs.Spreading.{spread}
use Rattle.pc_sched.specs.{Schedules.schedule_limit, declared.turns.Turn.Turn}
use Rattle.pc_refusals.specs.{Source.{AcceptedStage, ScheduleStage, source_limit}, Verdict.{files_change, named}, declared.typing.Accepted.Accepted}
use Rattle.pc_refusals.proofs.{Ending.{both_end, both_stop, stop_ends}, Scheduled.few_turns}
use Rattle.pc_commands.specs.Run.{Ran}
use Rattle.pc_top.specs.{Commands.Run.IsRun, Shapes.UnreadScheduled}
use Rattle.pc_top.proofs.Deriving.{accepted_lacks_nothing}
use Rattle.pc_top.proofs.commands.run.run_source.Goals as goal

pub returns-in_err-read-clause-ends : goal.returns-in_err-read-clause-ends
returns-in_err-read-clause-ends g c =
    let p = err_from_is_err_and c.from_residual.result c.from_residual.ensures.1 in
    let s = c.args.source.now in
    let d = c.args.schedule.now in
    let files = files_change (g.F.Files.bytes c.args.files.now) (g.F.Files.faults c.args.files.now) (g.F.Files.faults c.read_scheduled.new.files) (g.F.Files.taken c.read_scheduled.new.files) in
    let out = change (g.O.Sink.written c.args.out.now) (g.O.Sink.written c.args.out.now) (g.O.Sink.faults c.args.out.now) (g.O.Sink.faults c.args.out.now) in
    rw (p.1, p.2) (stop_ends (IsRun (named files s) (named files d)) (UnreadScheduled (named files s) (named files d)) out _
    (both_stop source_limit schedule_limit (AcceptedStage s) (ScheduleStage d) (λ (a : Accepted) (turns : List Turn). Ran d a.source.core (spread turns)) (UnreadScheduled (named files s) (named files d)) (named files s) (named files d) _ (λ n f. inl f) (λ n p f. inr (p, f)) c.in_err-read.ensures.reads) refl)

pub run_turns-requires-clause-few : goal.run_turns-requires-clause-few
run_turns-requires-clause-few g c = rw c.as_slice.ensures (few_turns c.in_ok-read.ensures.reads.1.2)

pub run_turns-requires-clause-never_lacks : goal.run_turns-requires-clause-never_lacks
run_turns-requires-clause-never_lacks g c = accepted_lacks_nothing c.cores_of_sources_are_formed.ensures c.accepted_never_lacks.ensures c.in_ok-read.ensures.reads.0.2

pub returns-clause-ends : goal.returns-clause-ends
returns-clause-ends g c =
    let s = c.args.source.now in
    let d = c.args.schedule.now in
    let files = files_change (g.F.Files.bytes c.args.files.now) (g.F.Files.faults c.args.files.now) (g.F.Files.faults c.read_scheduled.new.files) (g.F.Files.taken c.read_scheduled.new.files) in
    let read = c.in_ok-read.read in
    let out = change (g.O.Sink.written c.args.out.now) (g.O.Sink.written c.run_turns.new.out) (g.O.Sink.faults c.args.out.now) (g.O.Sink.faults c.run_turns.new.out) in
    both_end source_limit schedule_limit (AcceptedStage s) (ScheduleStage d) (λ (a : Accepted) (turns : List Turn). Ran d a.source.core (spread turns)) (UnreadScheduled (named files s) (named files d)) (named files s) (named files d) read.accepted read.turns c.in_ok-read.ensures.reads out _ (rw (← c.as_slice.ensures) c.run_turns.ensures.ends)
