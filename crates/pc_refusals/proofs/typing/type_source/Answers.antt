use Rattle.pc_refusals.specs.Source.Typing.{typed}
use Rattle.pc_refusals.proofs.Typed.{core_stops}
use Rattle.pc_refusals.proofs.typing.type_source.Goals as goal

pub returns-in-Ok : goal.returns-in-Ok
returns-in-Ok c = typed c.in-Ok.ann c.in-Ok.ensures.ok

pub returns-in-Err : goal.returns-in-Err
returns-in-Err c = core_stops c.args.name.now c.args.source c.in-Err.fault _ c.in-Err.ensures.err c.refuse_core.ensures
