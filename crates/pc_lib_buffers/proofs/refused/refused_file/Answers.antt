use Rattle.std.proofs.lemmas.Result.{IfOk-weaker}
use Rattle.pc_tree.specs.View.{file_view}
use Rattle.pc_lib_buffers.specs.Refused.IsFileRefusedAt.{has_core}
use Rattle.pc_lib_buffers.proofs.Stages.{name_refused}
use Rattle.pc_lib_buffers.proofs.refused.refused_file.Goals as goal

pub returns-in-Ok : goal.returns-in-Ok
returns-in-Ok c = IfOk-weaker c.refused_core.result _ _ (λ span is. has_core c.in-Ok.ensures.core is) c.refused_core.ensures

pub returns-in-Err : goal.returns-in-Err
returns-in-Err c = IfOk-weaker c.name_span.result _ _ (λ span is. name_refused (file_view c.args.file) span c.in-Err.fault c.in-Err.ensures.fault is) c.name_span.ensures
