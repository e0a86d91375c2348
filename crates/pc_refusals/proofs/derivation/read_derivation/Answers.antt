use Rattle.std.proofs.lemmas.Result.{err_from_is_err_and}
use Rattle.pc_deriv.specs.Text.{derivation_limit}
use Rattle.pc_refusals.specs.{Source.After.stops, Derivation.{DerivationStage, Deriving}, Verdict.file_at, Source.Length.is_longer}
use Rattle.pc_refusals.proofs.Parts.{not_read, whole_ends}
use Rattle.pc_refusals.proofs.derivation.read_derivation.Goals as goal

pub returns-in_err-bytes-clause-stage : goal.returns-in_err-bytes-clause-stage
returns-in_err-bytes-clause-stage g c =
    let p = err_from_is_err_and c.from_residual.result c.from_residual.ensures.1 in
    let file = file_at (g.F.Files.bytes c.args.files.now) (g.F.Files.faults c.args.files.now) (g.F.Files.faults c.read_file.new.files) (g.F.Files.taken c.read_file.new.files) c.args.name.now in
    rw (p.1, p.2) (not_read derivation_limit (DerivationStage c.args.name.now) file _ (stops is_longer) c.in_err-bytes.ensures.reads)

pub returns-clause-stage : goal.returns-clause-stage
returns-clause-stage g c =
    let file = file_at (g.F.Files.bytes c.args.files.now) (g.F.Files.faults c.args.files.now) (g.F.Files.faults c.read_file.new.files) (g.F.Files.taken c.read_file.new.files) c.args.name.now in
    whole_ends derivation_limit (Deriving c.args.name.now) file c.in_ok-bytes.bytes c.as_slice.result.now c.read_annotation.result c.in_ok-bytes.ensures.reads c.as_slice.ensures c.read_annotation.ensures
