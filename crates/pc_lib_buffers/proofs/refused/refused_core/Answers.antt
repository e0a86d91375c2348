use Rattle.std.proofs.lemmas.Result.{IfOk-weaker}
use Rattle.pc_lib_buffers.specs.Refused.IsCoreRefusedAt.{derived}
use Rattle.pc_lib_buffers.proofs.Stages.{core_refused}
use Rattle.pc_lib_buffers.proofs.refused.refused_core.Goals as goal

pub returns-in-Ok : goal.returns-in-Ok
returns-in-Ok c = derived (c.in-Ok.field-0, c.in-Ok.ensures.ok)

pub returns : goal.returns
returns c = IfOk-weaker c.core_span.result _ _ (λ span is. core_refused c.args.core.now c.in-Err.fault span c.in-Err.ensures.err is) c.core_span.ensures
