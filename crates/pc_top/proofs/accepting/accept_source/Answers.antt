use Rattle.std.proofs.lemmas.Result.{err_from_is_err_and}
use Rattle.pc_refusals.specs.{Source.{Typing, SourceStage, source_limit}, Verdict.file_at}
use Rattle.pc_refusals.proofs.Parts.{ends_behind, stops_behind}
use Rattle.pc_top.proofs.accepting.accept_source.Goals as goal

pub returns-in_err-source-clause-stage : goal.returns-in_err-source-clause-stage
returns-in_err-source-clause-stage g c =
    let p = err_from_is_err_and c.from_residual.result c.from_residual.ensures.1 in
    let file = file_at (g.F.Files.bytes c.args.files.now) (g.F.Files.faults c.args.files.now) (g.F.Files.faults c.read_source.new.files) (g.F.Files.taken c.read_source.new.files) c.args.name.now in
    rw (p.1, p.2) (stops_behind source_limit (SourceStage c.args.name.now) (Typing c.args.name.now) file _ c.in_err-source.ensures.stage)

pub returns-clause-stage : goal.returns-clause-stage
returns-clause-stage g c =
    let file = file_at (g.F.Files.bytes c.args.files.now) (g.F.Files.faults c.args.files.now) (g.F.Files.faults c.read_source.new.files) (g.F.Files.taken c.read_source.new.files) c.args.name.now in
    ends_behind source_limit (SourceStage c.args.name.now) (Typing c.args.name.now) file c.in_ok-source.source c.type_source.result c.in_ok-source.ensures.stage c.type_source.ensures
