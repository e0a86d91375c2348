use Rattle.std.proofs.{Common.inl, lemmas.Result.err_from_is_err_and}
use Rattle.pc_refusals.specs.{Derivation.in_parts, Verdict.{file_at, files_change, named}, Source.{SourceStage, source_limit}}
use Rattle.pc_commands.specs.Judge.{accepted_text}
use Rattle.pc_top.specs.Shapes.{OfJudged, UnreadDerivation}
use Rattle.pc_top.proofs.{Judging.{derivation_refused, derivation_told}, Rooms.Judge.{judged_all, source_not_done}}
use Rattle.pc_refusals.proofs.{Ending.part_stops, TwoFiles.{both_later, both_same}}
use Rattle.pc_top.proofs.commands.judge.judge_source.Goals as goal

pub returns-in_err-read-clause-answers : goal.returns-in_err-read-clause-answers
returns-in_err-read-clause-answers g c =
    let p = err_from_is_err_and c.from_residual.result c.from_residual.ensures.1 in
    let s = c.args.source.now in
    let d = c.args.derivation.now in
    let files = files_change (g.F.Files.bytes c.args.files.now) (g.F.Files.faults c.args.files.now) (g.F.Files.faults c.read_source.new.files) (g.F.Files.taken c.read_source.new.files) in
    rw (p.1, p.2) (part_stops source_limit (SourceStage s) (OfJudged (λ ann. accepted_text) (named files s) (in_parts (named files d))) (UnreadDerivation (named files s) (named files d)) (named files s) _ (λ n f. inl f) c.in_err-read.ensures.stage)

pub returns-in_err-read-clause-asks : goal.returns-in_err-read-clause-asks
returns-in_err-read-clause-asks g c =
    let p = err_from_is_err_and c.from_residual.result c.from_residual.ensures.1 in
    let source = file_at (g.F.Files.bytes c.args.files.now) (g.F.Files.faults c.args.files.now) (g.F.Files.faults c.read_source.new.files) (g.F.Files.taken c.read_source.new.files) c.args.source.now in
    rw (p.1, p.2) (source_not_done c.args.source.now source _ c.in_err-read.ensures.stage)

pub returns-in_err-judge_derivation-clause-answers : goal.returns-in_err-judge_derivation-clause-answers
returns-in_err-judge_derivation-clause-answers g c =
    let p = err_from_is_err_and c.from_residual-in_err-judge_derivation.result c.from_residual-in_err-judge_derivation.ensures.1 in
    let s = c.args.source.now in
    let d = c.args.derivation.now in
    rw (p.1, p.2)
    (derivation_refused s d (g.F.Files.bytes c.args.files.now) (g.F.Files.bytes c.read_source.new.files)
    (g.F.Files.faults c.args.files.now) (g.F.Files.faults c.read_source.new.files) (g.F.Files.faults c.judge_derivation.new.files) (g.F.Files.taken c.read_source.new.files) (g.F.Files.taken c.judge_derivation.new.files)
    c.in_ok-read.read c.in_ok-read.ensures.stage (c.in_ok-read.ensures.same d) (c.in_ok-read.ensures.later d) (c.in_err-judge_derivation.ensures.later d) _ c.in_err-judge_derivation.ensures.ends)

pub returns-in_err-judge_derivation-clause-asks : goal.returns-in_err-judge_derivation-clause-asks
returns-in_err-judge_derivation-clause-asks g c =
    let p = err_from_is_err_and c.from_residual-in_err-judge_derivation.result c.from_residual-in_err-judge_derivation.ensures.1 in
    rw (p.1, p.2) c.in_err-judge_derivation.ensures.asks

pub returns-clause-answers : goal.returns-clause-answers
returns-clause-answers g c =
    let s = c.args.source.now in
    let d = c.args.derivation.now in
    derivation_told s d (g.F.Files.bytes c.args.files.now) (g.F.Files.bytes c.read_source.new.files)
    (g.F.Files.faults c.args.files.now) (g.F.Files.faults c.read_source.new.files) (g.F.Files.faults c.judge_derivation.new.files) (g.F.Files.taken c.read_source.new.files) (g.F.Files.taken c.judge_derivation.new.files)
    c.in_ok-read.read c.in_ok-read.ensures.stage (c.in_ok-read.ensures.same d) (c.in_ok-read.ensures.later d) (c.in_ok-judge_derivation.ensures.later d) tt c.in_ok-judge_derivation.ensures.ends
    c.in_ok-text.text c.in_ok-text.ensures

pub returns-clause-asks : goal.returns-clause-asks
returns-clause-asks g c =
    let d = c.args.derivation.now in
    let source = file_at (g.F.Files.bytes c.args.files.now) (g.F.Files.faults c.args.files.now) (g.F.Files.faults c.read_source.new.files) (g.F.Files.taken c.read_source.new.files) c.args.source.now in
    judged_all source (g.F.Files.bytes c.args.files.now d) (g.F.Files.bytes c.read_source.new.files d) c.in_ok-read.read (g.R.Referee.asked c.args.referee.now) (g.R.Referee.asked c.judge_derivation.new.referee) (c.in_ok-read.ensures.same d) c.in_ok-read.ensures.stage c.in_ok-judge_derivation.ensures.asks

pub returns-in_err-judge_derivation-clause-later : goal.returns-in_err-judge_derivation-clause-later
returns-in_err-judge_derivation-clause-later g c = both_later _ _ _ c.in_ok-read.ensures.later c.in_err-judge_derivation.ensures.later

pub returns-in_err-judge_derivation-clause-same : goal.returns-in_err-judge_derivation-clause-same
returns-in_err-judge_derivation-clause-same g c = both_same _ _ _ c.in_ok-read.ensures.same c.in_err-judge_derivation.ensures.same

pub returns-in_err-text-clause-later : goal.returns-in_err-text-clause-later
returns-in_err-text-clause-later g c = both_later _ _ _ c.in_ok-read.ensures.later c.in_ok-judge_derivation.ensures.later

pub returns-in_err-text-clause-same : goal.returns-in_err-text-clause-same
returns-in_err-text-clause-same g c = both_same _ _ _ c.in_ok-read.ensures.same c.in_ok-judge_derivation.ensures.same

pub returns-clause-later : goal.returns-clause-later
returns-clause-later g c = both_later _ _ _ c.in_ok-read.ensures.later c.in_ok-judge_derivation.ensures.later

pub returns-clause-same : goal.returns-clause-same
returns-clause-same g c = both_same _ _ _ c.in_ok-read.ensures.same c.in_ok-judge_derivation.ensures.same
