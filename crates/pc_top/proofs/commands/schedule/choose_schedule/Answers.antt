use Rattle.std.proofs.{Common.{Ok, refl}, lemmas.Result.err_from_is_err_and}
use Rattle.pc_args.specs.Line.{IsSeed}
use Rattle.pc_refusals.specs.Verdict.{files_change, done}
use Rattle.pc_top.specs.Commands.Schedule.{Scheduled}
use Rattle.pc_top.proofs.NumberRoom.{number_answers, number_stops}
use Rattle.pc_top.proofs.commands.schedule.choose_schedule.Goals as goal

pub returns-in_err-read-clause-answers : goal.returns-in_err-read-clause-answers
returns-in_err-read-clause-answers g c =
    let p = err_from_is_err_and c.from_residual.result c.from_residual.ensures.1 in
    let files = files_change (g.F.Files.bytes c.args.files.now) (g.F.Files.faults c.args.files.now) (g.F.Files.faults c.accept_numbered.new.files) (g.F.Files.taken c.accept_numbered.new.files) in
    rw (p.1, p.2) (number_stops (IsSeed c.args.seed.now) Scheduled files c.args.source.now c.seed_of.result c.seed_of.ensures _ c.in_err-read.ensures.reads)

pub returns-clause-answers : goal.returns-clause-answers
returns-clause-answers g c =
    let files = files_change (g.F.Files.bytes c.args.files.now) (g.F.Files.faults c.args.files.now) (g.F.Files.faults c.accept_numbered.new.files) (g.F.Files.taken c.accept_numbered.new.files) in
    let read = c.in_ok-read.read in
    let scheduled : Scheduled read.number read.accepted (done c.in_ok-text.text) = (c.in_ok-text.text, c.in_ok-text.ensures, refl) in
    number_answers (IsSeed c.args.seed.now) Scheduled files c.args.source.now c.seed_of.result c.seed_of.ensures read c.in_ok-read.ensures.reads (Ok c.in_ok-text.text) scheduled
