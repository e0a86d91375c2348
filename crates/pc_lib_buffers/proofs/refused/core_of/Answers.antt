use Rattle.std.proofs.lemmas.Result.{IfOk-weaker}
use Rattle.pc_core_relation.proofs.Files.{made_cores_stand}
use Rattle.pc_tree.specs.View.{file_view}
use Rattle.pc_lib_buffers.proofs.Stages.{members_fault}
use Rattle.pc_lib_buffers.proofs.refused.core_of.Goals as goal

pub returns-clause-core : goal.returns-clause-core
returns-clause-core c = IfOk-weaker c.elaborate.result _ _ (λ core made. made_cores_stand (file_view c.args.file.now) core made) c.elaborate.ensures.core

pub returns-clause-fault : goal.returns-clause-fault
returns-clause-fault c = members_fault (file_view c.args.file.now) c.elaborate.result c.elaborate.ensures.fault
