use Rattle.std.proofs.{Common.{Ok, refl}, lemmas.Result.err_from_is_err_and}
use Rattle.pc_refusals.specs.{Source.{AcceptedStage, source_limit}, Verdict.{FailedAt, files_change, named, done}}
use Rattle.pc_refusals.proofs.Ending.{part_answers, part_stops}
use Rattle.pc_top.specs.Commands.Sends.{Sent}
use Rattle.pc_top.proofs.Deriving.{accepted_source}
use Rattle.pc_top.proofs.commands.sends.tell_sends.Goals as goal

pub returns-in_err-accepted-clause-answers : goal.returns-in_err-accepted-clause-answers
returns-in_err-accepted-clause-answers g c =
    let p = err_from_is_err_and c.from_residual.result c.from_residual.ensures.1 in
    let s = c.args.source.now in
    let files = files_change (g.F.Files.bytes c.args.files.now) (g.F.Files.faults c.args.files.now) (g.F.Files.faults c.accept_source.new.files) (g.F.Files.taken c.accept_source.new.files) in
    rw (p.1, p.2) (part_stops source_limit (AcceptedStage s) Sent (FailedAt (named files s)) (named files s) _ (λ n f. f) c.in_err-accepted.ensures.stage)

pub write_sends-requires : goal.write_sends-requires
write_sends-requires g c = (accepted_source c.in_ok-accepted.ensures.stage.2).1

pub returns-clause-answers : goal.returns-clause-answers
returns-clause-answers g c =
    let sent : Sent c.in_ok-accepted.accepted (done c.in_ok-text.text) = (c.in_ok-text.text, c.in_ok-text.ensures, refl) in
    let s = c.args.source.now in
    let files = files_change (g.F.Files.bytes c.args.files.now) (g.F.Files.faults c.args.files.now) (g.F.Files.faults c.accept_source.new.files) (g.F.Files.taken c.accept_source.new.files) in
    let file = named files s in
    part_answers source_limit (AcceptedStage s) Sent (FailedAt (named files s)) file (FailedAt file) c.in_ok-accepted.accepted (λ n f. f) c.in_ok-accepted.ensures.stage (Ok c.in_ok-text.text) sent
