use Rattle.std.proofs.{Common.{Ok, refl}, lemmas.Result.err_from_is_err_and}
use Rattle.pc_refusals.specs.{Source.{AcceptedStage, source_limit}, Verdict.{FailedAt, files_change, named, done}}
use Rattle.pc_refusals.proofs.Ending.{part_answers, part_stops}
use Rattle.pc_top.specs.Commands.Check.{Derived}
use Rattle.pc_top.proofs.Deriving.{accepted_source, first, small_notes, source_formed}
use Rattle.pc_top.proofs.commands.check.check_source.Goals as goal

pub returns-in_err-accepted-clause-answers : goal.returns-in_err-accepted-clause-answers
returns-in_err-accepted-clause-answers g c =
    let p = err_from_is_err_and c.from_residual.result c.from_residual.ensures.1 in
    let s = c.args.source.now in
    let files = files_change (g.F.Files.bytes c.args.files.now) (g.F.Files.faults c.args.files.now) (g.F.Files.faults c.accept_source.new.files) (g.F.Files.taken c.accept_source.new.files) in
    rw (p.1, p.2) (part_stops source_limit (AcceptedStage s) Derived (FailedAt (named files s)) (named files s) _ (λ n f. f) c.in_err-accepted.ensures.stage)

pub write_derivation-requires : goal.write_derivation-requires
write_derivation-requires g c =
    let s = accepted_source c.in_ok-accepted.ensures.stage.2 in
    let small = (source_formed c.cores_of_sources_are_formed.ensures s.0).1 in
    small_notes c.in_ok-accepted.accepted.source.core c.in_ok-accepted.accepted.ann small s.1

pub returns-clause-answers : goal.returns-clause-answers
returns-clause-answers g c =
    let one = first c.in_ok-accepted.accepted.ann c.in_ok-text.text c.in_ok-text.ensures.read_back c.in_ok-text.ensures.text in
    let derived : Derived c.in_ok-accepted.accepted (done c.in_ok-text.text) = (c.in_ok-text.text, one.0, one.1, refl) in
    let s = c.args.source.now in
    let files = files_change (g.F.Files.bytes c.args.files.now) (g.F.Files.faults c.args.files.now) (g.F.Files.faults c.accept_source.new.files) (g.F.Files.taken c.accept_source.new.files) in
    let file = named files s in
    part_answers source_limit (AcceptedStage s) Derived (FailedAt (named files s)) file (FailedAt file) c.in_ok-accepted.accepted (λ n f. f) c.in_ok-accepted.ensures.stage (Ok c.in_ok-text.text) derived
