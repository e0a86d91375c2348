use Rattle.std.proofs.{Common.{Ok, refl}, lemmas.Result.err_from_is_err_and}
use Rattle.pc_refusals.specs.{Verdict.{FailedAt, file_at, files_change, named, done}, Source.{SourceStage, source_limit}}
use Rattle.pc_refusals.proofs.Ending.{part_answers, part_stops}
use Rattle.pc_top.specs.Commands.Places.{Placed}
use Rattle.pc_top.proofs.Rooms.Places.{source_has_tokens, source_is_short, source_placed}
use Rattle.pc_top.proofs.commands.places.tell_places.Goals as goal

pub returns-in_err-read-clause-answers : goal.returns-in_err-read-clause-answers
returns-in_err-read-clause-answers g c =
    let p = err_from_is_err_and c.from_residual.result c.from_residual.ensures.1 in
    let s = c.args.source.now in
    let file = file_at (g.F.Files.bytes c.args.files.now) (g.F.Files.faults c.args.files.now) (g.F.Files.faults c.read_source.new.files) (g.F.Files.taken c.read_source.new.files) s in
    rw (p.1, p.2) (part_stops source_limit (SourceStage s) Placed _ file _ (λ n f. f) c.in_err-read.ensures.stage)

pub write_places-requires-clause-short : goal.write_places-requires-clause-short
write_places-requires-clause-short g c = source_is_short c.in_ok-read.read c.as_slice.result.now c.as_slice.ensures c.in_ok-read.ensures.stage.2

pub write_places-requires-clause-has_tokens : goal.write_places-requires-clause-has_tokens
write_places-requires-clause-has_tokens g c = source_has_tokens c.in_ok-read.read c.as_slice.result.now c.as_slice.ensures c.in_ok-read.ensures.stage.2

pub returns-clause-answers : goal.returns-clause-answers
returns-clause-answers g c =
    let read = c.in_ok-read.read in
    let text = c.in_ok-text.text in
    let placed : Placed read (done text) = (text, source_placed read c.as_slice.result.now text c.as_slice.ensures c.in_ok-text.ensures, refl) in
    let s = c.args.source.now in
    let files = files_change (g.F.Files.bytes c.args.files.now) (g.F.Files.faults c.args.files.now) (g.F.Files.faults c.read_source.new.files) (g.F.Files.taken c.read_source.new.files) in
    let file = named files s in
    part_answers source_limit (SourceStage s) Placed (FailedAt (named files s)) file (FailedAt file) read (λ n f. f) c.in_ok-read.ensures.stage (Ok text) placed
