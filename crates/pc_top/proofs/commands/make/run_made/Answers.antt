use Rattle.std.proofs.{Common.refl, lemmas.Result.err_from_is_err_and}
use Rattle.pc_io.specs.Sink.{change}
use Rattle.pc_refusals.specs.{Source.{AcceptedStage, source_limit}, Verdict.text_as}
use Rattle.pc_commands.specs.Make.{made_name}
use Rattle.pc_gen.specs.Generated.{generated_text}
use Rattle.pc_top.specs.Commands.Make.{IsMade, MadeRun}
use Rattle.pc_top.proofs.{Deriving.accepted_lacks_nothing, Rooms.Make.never_failed}
use Rattle.pc_refusals.proofs.Ending.{part_ends, part_stops, stop_ends}
use Rattle.pc_top.proofs.commands.make.run_made.Goals as goal

pub returns-in_err-accepted-clause-ends : goal.returns-in_err-accepted-clause-ends
returns-in_err-accepted-clause-ends g c =
    let p = err_from_is_err_and c.from_residual.result c.from_residual.ensures.1 in
    let text = generated_text c.args.seed c.args.size in
    let out = change (g.O.Sink.written c.args.out.now) (g.O.Sink.written c.args.out.now) (g.O.Sink.faults c.args.out.now) (g.O.Sink.faults c.args.out.now) in
    rw (p.1, p.2) (stop_ends (IsMade c.args.seed c.args.size) (λ n. ⊥) out _
    (part_stops source_limit (AcceptedStage made_name) (MadeRun c.args.seed c.args.size) (λ n. ⊥) (text_as made_name text) _ (never_failed made_name text) c.in_err-accepted.ensures) refl)

pub run_generated-requires-clause-never_lacks : goal.run_generated-requires-clause-never_lacks
run_generated-requires-clause-never_lacks g c = accepted_lacks_nothing c.cores_of_sources_are_formed.ensures c.accepted_never_lacks.ensures c.in_ok-accepted.ensures.2

pub returns-clause-ends : goal.returns-clause-ends
returns-clause-ends g c =
    let seed = c.args.seed in
    let size = c.args.size in
    let out = change (g.O.Sink.written c.args.out.now) (g.O.Sink.written c.run_generated.new.out) (g.O.Sink.faults c.args.out.now) (g.O.Sink.faults c.run_generated.new.out) in
    part_ends source_limit (AcceptedStage made_name) (MadeRun seed size) (λ n. ⊥) (text_as made_name (generated_text seed size)) (λ n. ⊥) c.in_ok-accepted.accepted (λ n f. f) c.in_ok-accepted.ensures out c.run_generated.result c.run_generated.ensures.ends
