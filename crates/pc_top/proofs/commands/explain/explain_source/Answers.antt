use Rattle.std.proofs.lemmas.Result.{err_from_is_err_and}
use Rattle.pc_refusals.specs.{Source.After.stops, Verdict.{FailedAt, files_change, named}, Source.source_limit, Source.Length.is_longer}
use Rattle.pc_refusals.proofs.{Ending.part_stops, Parts.not_read}
use Rattle.pc_top.specs.{Commands.Explain.{Explained, ExplainedStage}, Commands.Explain.ExplainedStage.has_none}
use Rattle.pc_top.proofs.Rooms.Explain.Ends.{explain_answers}
use Rattle.pc_top.proofs.commands.explain.explain_source.Goals as goal

pub returns-in_err-bytes-clause-answers : goal.returns-in_err-bytes-clause-answers
returns-in_err-bytes-clause-answers g c =
    let p = err_from_is_err_and c.from_residual.result c.from_residual.ensures.1 in
    let s = c.args.source.now in
    let files = files_change (g.F.Files.bytes c.args.files.now) (g.F.Files.faults c.args.files.now) (g.F.Files.faults c.read_file.new.files) (g.F.Files.taken c.read_file.new.files) in
    let file = named files s in
    rw (p.1, p.2) (part_stops source_limit (ExplainedStage s) Explained (FailedAt file) file _ (λ n f. f) (not_read source_limit (ExplainedStage s) file _ (has_none (stops is_longer)) c.in_err-bytes.ensures.reads))

pub returns-clause-answers : goal.returns-clause-answers
returns-clause-answers g c =
    let files = files_change (g.F.Files.bytes c.args.files.now) (g.F.Files.faults c.args.files.now) (g.F.Files.faults c.read_file.new.files) (g.F.Files.taken c.read_file.new.files) in
    explain_answers (named files c.args.source.now) c.in_ok-bytes.bytes c.as_slice.result.now c.explain_bytes.result c.in_ok-bytes.ensures.reads c.as_slice.ensures c.explain_bytes.ensures
