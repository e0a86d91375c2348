use Rattle.std.proofs.lemmas.Result.{err_from_is_err_and}
use Rattle.pc_refusals.specs.{Source.After.stops, Verdict.file_at, Source.{SourceStage, source_limit}, Source.Length.is_longer}
use Rattle.pc_top.proofs.Facts.{core_given, core_stopped}
use Rattle.pc_refusals.proofs.Parts.{not_read}
use Rattle.pc_top.proofs.source.read_source.Goals as goal

pub returns-in_err-bytes-clause-stage : goal.returns-in_err-bytes-clause-stage
returns-in_err-bytes-clause-stage g c =
    let p = err_from_is_err_and c.from_residual.result c.from_residual.ensures.1 in
    let file = file_at (g.F.Files.bytes c.args.files.now) (g.F.Files.faults c.args.files.now) (g.F.Files.faults c.read_file.new.files) (g.F.Files.taken c.read_file.new.files) c.args.name.now in
    rw (p.1, p.2) (not_read source_limit (SourceStage c.args.name.now) file _ (stops is_longer) c.in_err-bytes.ensures.reads)

pub returns-in_err-core-clause-stage : goal.returns-in_err-core-clause-stage
returns-in_err-core-clause-stage g c =
    let p = err_from_is_err_and c.from_residual-in_err-core.result c.from_residual-in_err-core.ensures.1 in
    let file = file_at (g.F.Files.bytes c.args.files.now) (g.F.Files.faults c.args.files.now) (g.F.Files.faults c.read_file.new.files) (g.F.Files.taken c.read_file.new.files) c.args.name.now in
    rw (p.1, p.2) (core_stopped file c.in_ok-bytes.bytes c.as_slice.result.now _ c.in_ok-bytes.ensures.reads c.as_slice.ensures c.in_err-core.ensures)

pub returns-clause-stage : goal.returns-clause-stage
returns-clause-stage g c =
    let file = file_at (g.F.Files.bytes c.args.files.now) (g.F.Files.faults c.args.files.now) (g.F.Files.faults c.read_file.new.files) (g.F.Files.taken c.read_file.new.files) c.args.name.now in
    core_given file c.in_ok-bytes.bytes c.as_slice.result.now c.in_ok-core.core c.in_ok-bytes.ensures.reads c.as_slice.ensures c.in_ok-core.ensures
