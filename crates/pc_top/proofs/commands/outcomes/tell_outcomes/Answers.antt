use Rattle.std.proofs.{lemmas.Result.err_from_is_err_and, Common.arith}
use Rattle.pc_refusals.specs.Verdict.{files_change}
use Rattle.pc_refusals.proofs.Ending.{last_ends}
use Rattle.pc_commands.specs.Outcomes.{IsCount, OutcomesTelling}
use Rattle.pc_top.specs.Commands.Outcomes.{Tabled}
use Rattle.pc_top.proofs.{Deriving.accepted_lacks_nothing, NumberRoom.{is_number, number_answers, number_stops}}
use Rattle.pc_top.proofs.commands.outcomes.tell_outcomes.Goals as goal

pub returns-in_err-read-clause-answers : goal.returns-in_err-read-clause-answers
returns-in_err-read-clause-answers g c =
    let p = err_from_is_err_and c.from_residual.result c.from_residual.ensures.1 in
    let source = c.args.source.now in
    let files = files_change (g.F.Files.bytes c.args.files.now) (g.F.Files.faults c.args.files.now) (g.F.Files.faults c.accept_numbered.new.files) (g.F.Files.taken c.accept_numbered.new.files) in
    rw (p.1, p.2) (number_stops (IsCount c.args.count.now) (Tabled source) files source c.count_of.result c.count_of.ensures _ c.in_err-read.ensures.reads)

pub write_outcomes-requires-clause-few : goal.write_outcomes-requires-clause-few
write_outcomes-requires-clause-few g c =
    let files = files_change (g.F.Files.bytes c.args.files.now) (g.F.Files.faults c.args.files.now) (g.F.Files.faults c.accept_numbered.new.files) (g.F.Files.taken c.accept_numbered.new.files) in
    let few = (is_number (IsCount c.args.count.now) (Tabled c.args.source.now) files c.args.source.now c.count_of.result c.count_of.ensures c.in_ok-read.read c.in_ok-read.ensures.reads).2 in
    omega (arith, few)

pub write_outcomes-requires-clause-never_lacks : goal.write_outcomes-requires-clause-never_lacks
write_outcomes-requires-clause-never_lacks g c = accepted_lacks_nothing c.cores_of_sources_are_formed.ensures c.accepted_never_lacks.ensures c.in_ok-read.ensures.reads.1.2

pub returns-clause-answers : goal.returns-clause-answers
returns-clause-answers g c =
    let source = c.args.source.now in
    let files = files_change (g.F.Files.bytes c.args.files.now) (g.F.Files.faults c.args.files.now) (g.F.Files.faults c.accept_numbered.new.files) (g.F.Files.taken c.accept_numbered.new.files) in
    let read = c.in_ok-read.read in
    number_answers (IsCount c.args.count.now) (Tabled source) files source c.count_of.result c.count_of.ensures read c.in_ok-read.ensures.reads _
    (last_ends (OutcomesTelling source read.accepted.source.core read.number) (λ n. ⊥) _ c.write_outcomes.ensures)
