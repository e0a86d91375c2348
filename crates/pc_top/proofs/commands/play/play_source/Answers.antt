use Rattle.std.proofs.{Common.refl, lemmas.Result.err_from_is_err_and}
use Rattle.pc_args.specs.Line.{IsSeed}
use Rattle.pc_io.specs.Sink.{change}
use Rattle.pc_refusals.specs.Verdict.{files_change, named}
use Rattle.pc_refusals.proofs.Ending.{stop_ends}
use Rattle.pc_top.specs.Commands.Play.{IsPlay, Played}
use Rattle.pc_top.proofs.{Deriving.accepted_lacks_nothing, NumberRoom.{number_ends, number_stops}}
use Rattle.pc_top.proofs.commands.play.play_source.Goals as goal

pub returns-in_err-read-clause-ends : goal.returns-in_err-read-clause-ends
returns-in_err-read-clause-ends g c =
    let p = err_from_is_err_and c.from_residual.result c.from_residual.ensures.1 in
    let source = c.args.source.now in
    let files = files_change (g.F.Files.bytes c.args.files.now) (g.F.Files.faults c.args.files.now) (g.F.Files.faults c.accept_numbered.new.files) (g.F.Files.taken c.accept_numbered.new.files) in
    let out = change (g.O.Sink.written c.args.out.now) (g.O.Sink.written c.args.out.now) (g.O.Sink.faults c.args.out.now) (g.O.Sink.faults c.args.out.now) in
    rw (p.1, p.2) (stop_ends (IsPlay (named files source) c.args.seed.now) _ out _
    (number_stops (IsSeed c.args.seed.now) (Played source) files source c.seed_of.result c.seed_of.ensures _ c.in_err-read.ensures.reads) refl)

pub play_core-requires : goal.play_core-requires
play_core-requires g c = record { never_lacks = accepted_lacks_nothing c.cores_of_sources_are_formed.ensures c.accepted_never_lacks.ensures c.in_ok-read.ensures.reads.1.2 }

pub returns-clause-ends : goal.returns-clause-ends
returns-clause-ends g c =
    let source = c.args.source.now in
    let files = files_change (g.F.Files.bytes c.args.files.now) (g.F.Files.faults c.args.files.now) (g.F.Files.faults c.accept_numbered.new.files) (g.F.Files.taken c.accept_numbered.new.files) in
    let out = change (g.O.Sink.written c.args.out.now) (g.O.Sink.written c.play_core.new.out) (g.O.Sink.faults c.args.out.now) (g.O.Sink.faults c.play_core.new.out) in
    number_ends (IsSeed c.args.seed.now) (Played source) files source c.seed_of.result c.seed_of.ensures c.in_ok-read.read c.in_ok-read.ensures.reads out _ c.play_core.ensures.ends
