use Rattle.pc_refusals.specs.Derivation.Deriving.{reads}
use Rattle.pc_refusals.proofs.Derivations.{text_stops}
use Rattle.pc_refusals.proofs.derivation.read_annotation.Goals as goal

pub returns-in-Ok : goal.returns-in-Ok
returns-in-Ok c = reads c.in-Ok.ensures.ok

pub returns-in-Err : goal.returns-in-Err
returns-in-Err c = text_stops c.args.name.now c.args.bytes.now c.in-Err.fault _ c.in-Err.ensures.err c.refuse_bytes.ensures
