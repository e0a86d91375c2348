use Rattle.std.proofs.{Common.inl, lemmas.Result.err_from_is_err_and}
use Rattle.pc_sched.specs.Schedules.{schedule_limit}
use Rattle.pc_refusals.specs.Source.{AcceptedStage, ScheduleStage, source_limit}
use Rattle.pc_refusals.proofs.TwoFiles.{both_later, both_same, second_gives, second_stops}
use Rattle.pc_top.proofs.Deriving.{accepted_whole}
use Rattle.pc_top.proofs.scheduled.read_scheduled.Goals as goal

pub returns-in_err-accepted-clause-reads : goal.returns-in_err-accepted-clause-reads
returns-in_err-accepted-clause-reads g c =
    let p = err_from_is_err_and c.from_residual.result c.from_residual.ensures.1 in
    rw (p.1, p.2) (inl c.in_err-accepted.ensures.stage)

pub returns-in_err-turns-clause-reads : goal.returns-in_err-turns-clause-reads
returns-in_err-turns-clause-reads g c =
    let p = err_from_is_err_and c.from_residual-in_err-turns.result c.from_residual-in_err-turns.ensures.1 in
    let s = c.args.source.now in
    let d = c.args.schedule.now in
    rw (p.1, p.2)
    (second_stops source_limit schedule_limit (AcceptedStage s) (ScheduleStage d) s d (g.F.Files.bytes c.args.files.now) (g.F.Files.bytes c.accept_source.new.files)
    (g.F.Files.faults c.args.files.now) (g.F.Files.faults c.accept_source.new.files) (g.F.Files.faults c.read_schedule.new.files) (g.F.Files.taken c.accept_source.new.files) (g.F.Files.taken c.read_schedule.new.files) (g.F.Files.taken c.read_schedule.new.files)
    c.in_ok-accepted.accepted (accepted_whole s c.in_ok-accepted.accepted) c.in_ok-accepted.ensures.stage (c.in_ok-accepted.ensures.same d) (c.in_ok-accepted.ensures.later d) (c.in_err-turns.ensures.later d)
    _ c.in_err-turns.ensures.stage)

pub returns-clause-reads : goal.returns-clause-reads
returns-clause-reads g c =
    let s = c.args.source.now in
    let d = c.args.schedule.now in
    second_gives source_limit schedule_limit (AcceptedStage s) (ScheduleStage d) s d (g.F.Files.bytes c.args.files.now) (g.F.Files.bytes c.accept_source.new.files)
    (g.F.Files.faults c.args.files.now) (g.F.Files.faults c.accept_source.new.files) (g.F.Files.faults c.read_schedule.new.files) (g.F.Files.taken c.accept_source.new.files) (g.F.Files.taken c.read_schedule.new.files) (g.F.Files.taken c.read_schedule.new.files)
    c.in_ok-accepted.accepted (accepted_whole s c.in_ok-accepted.accepted) c.in_ok-accepted.ensures.stage (c.in_ok-accepted.ensures.same d) (c.in_ok-accepted.ensures.later d) (c.in_ok-turns.ensures.later d)
    c.in_ok-turns.turns c.in_ok-turns.ensures.stage

pub returns-in_err-turns-clause-later : goal.returns-in_err-turns-clause-later
returns-in_err-turns-clause-later g c = both_later _ _ _ c.in_ok-accepted.ensures.later c.in_err-turns.ensures.later

pub returns-in_err-turns-clause-same : goal.returns-in_err-turns-clause-same
returns-in_err-turns-clause-same g c = both_same _ _ _ c.in_ok-accepted.ensures.same c.in_err-turns.ensures.same

pub returns-clause-later : goal.returns-clause-later
returns-clause-later g c = both_later _ _ _ c.in_ok-accepted.ensures.later c.in_ok-turns.ensures.later

pub returns-clause-same : goal.returns-clause-same
returns-clause-same g c = both_same _ _ _ c.in_ok-accepted.ensures.same c.in_ok-turns.ensures.same
