use Rattle.std.proofs.Common.{refl}
use Rattle.pc_run.specs.declared.report.RunFault.TheVariants.{Memory}
use Rattle.pc_io.specs.Sink.{change}
use Rattle.pc_play.proofs.UnderPlay.{played, refused}
use Rattle.pc_play.proofs.playing.play.Goals as goal

pub returns-in_err-through-clause-played : goal.returns-in_err-through-clause-played
returns-in_err-through-clause-played g c =
    refused c.args.core.now c.args.seed (g.O.Sink.written c.args.out.now) (g.O.Sink.faults c.args.out.now) Memory _ c.from_residual.ensures.1 refl

pub returns-clause-played : goal.returns-clause-played
returns-clause-played g c =
    played c.args.core.now c.in_ok-through.through.machine.core c.args.seed c.in_ok-through.through.machine.configuration c.in_ok-through.through.progress c.in_ok-through.through.steps
    (change (g.O.Sink.written c.args.out.now) (g.O.Sink.written c.put_run.new.out) (g.O.Sink.faults c.args.out.now) (g.O.Sink.faults c.put_run.new.out)) c.put_run.result
    c.in_ok-through.ensures.core c.in_ok-through.ensures.through c.put_run.ensures.answers c.put_run.ensures.writes
