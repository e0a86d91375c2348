use Rattle.std.proofs.{Common.{Ok, Err, ap}, lemmas.Result.err_from_is_err_and}
use Rattle.pc_tree.specs.View.{file_view}
use Rattle.pc_refusals.specs.{Source.After.stops, Verdict.{FailedAt, files_change, named, done}, Source.{FileStage, SyntaxStage, source_limit}, Source.Length.is_longer}
use Rattle.pc_refusals.proofs.{Ending.{part_answers, part_stops}, Parts.{not_read, whole_ends}}
use Rattle.pc_top.specs.Commands.Show.{Shown}
use Rattle.pc_top.proofs.commands.show.show_source.Goals as goal

pub returns-in_err-bytes-clause-answers : goal.returns-in_err-bytes-clause-answers
returns-in_err-bytes-clause-answers g c =
    let p = err_from_is_err_and c.from_residual.result c.from_residual.ensures.1 in
    let s = c.args.source.now in
    let files = files_change (g.F.Files.bytes c.args.files.now) (g.F.Files.faults c.args.files.now) (g.F.Files.faults c.read_file.new.files) (g.F.Files.taken c.read_file.new.files) in
    let file = named files s in
    rw (p.1, p.2) (part_stops source_limit (FileStage s) Shown (FailedAt (named files s)) file _ (λ n f. f) (not_read source_limit (FileStage s) file _ (stops is_longer) c.in_err-bytes.ensures.reads))

pub returns-in_err-file-clause-answers : goal.returns-in_err-file-clause-answers
returns-in_err-file-clause-answers g c =
    let p = err_from_is_err_and c.from_residual-in_err-file.result c.from_residual-in_err-file.ensures.1 in
    let s = c.args.source.now in
    let files = files_change (g.F.Files.bytes c.args.files.now) (g.F.Files.faults c.args.files.now) (g.F.Files.faults c.read_file.new.files) (g.F.Files.taken c.read_file.new.files) in
    let file = named files s in
    rw (p.1, p.2) (part_stops source_limit (FileStage s) Shown (FailedAt (named files s)) file _ (λ n f. f)
    (whole_ends source_limit (SyntaxStage s) file c.in_ok-bytes.bytes c.as_slice.result.now (Err _) c.in_ok-bytes.ensures.reads c.as_slice.ensures c.in_err-file.ensures))

pub returns-clause-answers : goal.returns-clause-answers
returns-clause-answers g c =
    let s = c.args.source.now in
    let files = files_change (g.F.Files.bytes c.args.files.now) (g.F.Files.faults c.args.files.now) (g.F.Files.faults c.read_file.new.files) (g.F.Files.taken c.read_file.new.files) in
    let file = named files s in
    let tree = file_view c.in_ok-file.file in
    let shown : Shown tree (done c.in_ok-text.text) = ap done c.in_ok-text.ensures in
    part_answers source_limit (FileStage s) Shown (FailedAt (named files s)) file (FailedAt file) tree (λ n f. f)
    (whole_ends source_limit (SyntaxStage s) file c.in_ok-bytes.bytes c.as_slice.result.now (Ok tree) c.in_ok-bytes.ensures.reads c.as_slice.ensures c.in_ok-file.ensures) (Ok c.in_ok-text.text) shown
