use Rattle.pc_refusals.specs.Verdict.{file_at}
use Rattle.pc_refusals.proofs.Judged.{derivation_holds, derivation_stops, derivation_asked, not_accepted}
use Rattle.pc_refusals.proofs.derivation.judge_derivation.Goals as goal

pub returns-in-Ok-clause-ends : goal.returns-in-Ok-clause-ends
returns-in-Ok-clause-ends g c =
    let file = file_at (g.F.Files.bytes c.args.files.now) (g.F.Files.faults c.args.files.now) (g.F.Files.faults c.judge_file.new.files) (g.F.Files.taken c.judge_file.new.files) c.args.name.now in
    derivation_holds c.args.source_name.now c.args.source.now file (g.R.Referee.asked c.args.referee.now) (g.R.Referee.asked c.judge_file.new.referee) tt c.in-Ok.ensures.judged

pub returns-in-Ok-clause-asks : goal.returns-in-Ok-clause-asks
returns-in-Ok-clause-asks g c =
    let file = file_at (g.F.Files.bytes c.args.files.now) (g.F.Files.faults c.args.files.now) (g.F.Files.faults c.judge_file.new.files) (g.F.Files.taken c.judge_file.new.files) c.args.name.now in
    derivation_asked c.args.source_name.now c.args.source.now file (g.R.Referee.asked c.args.referee.now) (g.R.Referee.asked c.judge_file.new.referee) c.valid_asks_all.ensures c.formed.ensures tt c.in-Ok.ensures.judged

pub returns-in-Err-clause-ends : goal.returns-in-Err-clause-ends
returns-in-Err-clause-ends g c =
    let file = file_at (g.F.Files.bytes c.args.files.now) (g.F.Files.faults c.args.files.now) (g.F.Files.faults c.judge_file.new.files) (g.F.Files.taken c.judge_file.new.files) c.args.name.now in
    derivation_stops c.args.source_name.now c.args.source.now file (g.R.Referee.asked c.args.referee.now) (g.R.Referee.asked c.judge_file.new.referee) c.in-Err.fault c.refuse_derivation.result c.in-Err.ensures.judged c.refuse_derivation.ensures

pub returns-in-Err-clause-asks : goal.returns-in-Err-clause-asks
returns-in-Err-clause-asks g c = not_accepted c.args.source_name.now c.args.name.now c.args.source.now c.in-Err.fault c.refuse_derivation.result c.refuse_derivation.ensures
