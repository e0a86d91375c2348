use Rattle.std.proofs.lemmas.Result.{err_from_is_err_and}
use Rattle.pc_sched.specs.Schedules.{schedule_limit}
use Rattle.pc_refusals.specs.{Source.After.stops, Source.{ScheduleStage, Scheduling}, Verdict.file_at, Source.Length.is_longer}
use Rattle.pc_refusals.proofs.Parts.{not_read, whole_ends}
use Rattle.pc_refusals.proofs.schedule.read_schedule.Goals as goal

pub returns-in_err-bytes-clause-stage : goal.returns-in_err-bytes-clause-stage
returns-in_err-bytes-clause-stage g c =
    let p = err_from_is_err_and c.from_residual.result c.from_residual.ensures.1 in
    let file = file_at (g.F.Files.bytes c.args.files.now) (g.F.Files.faults c.args.files.now) (g.F.Files.faults c.read_file.new.files) (g.F.Files.taken c.read_file.new.files) c.args.name.now in
    rw (p.1, p.2) (not_read schedule_limit (ScheduleStage c.args.name.now) file _ (stops is_longer) c.in_err-bytes.ensures.reads)

pub returns-clause-stage : goal.returns-clause-stage
returns-clause-stage g c =
    let file = file_at (g.F.Files.bytes c.args.files.now) (g.F.Files.faults c.args.files.now) (g.F.Files.faults c.read_file.new.files) (g.F.Files.taken c.read_file.new.files) c.args.name.now in
    whole_ends schedule_limit (Scheduling c.args.name.now) file c.in_ok-bytes.bytes c.as_slice.result.now c.read_turns.result c.in_ok-bytes.ensures.reads c.as_slice.ensures c.read_turns.ensures

pub read_turns-requires : goal.read_turns-requires
read_turns-requires g c = rw c.as_slice.ensures c.in_ok-bytes.ensures.reads.0
