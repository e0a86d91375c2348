use Rattle.pc_core_relation.proofs.Files.{made_cores_stand}
use Rattle.pc_tree.specs.View.{file_view}
use Rattle.pc_refusals.specs.Source.Elaborating.{elaborated}
use Rattle.pc_top.proofs.Facts.{names_stop, members_stop}
use Rattle.pc_top.proofs.source.elaborate_tree.Goals as goal

pub returns-in-Err : goal.returns-in-Err
returns-in-Err c = names_stop c.args.name.now c.args.bytes.now (file_view c.args.file.now) c.in-Err.fault c.refuse_name.result c.in-Err.ensures.err c.refuse_name.ensures

pub returns-in-Ok-elaborate : goal.returns-in-Ok-elaborate
returns-in-Ok-elaborate c = elaborated (made_cores_stand (file_view c.args.file.now) c.in-Ok-elaborate.core c.in-Ok-elaborate.ensures.core)

pub returns : goal.returns
returns c = members_stop c.args.name.now c.args.bytes.now (file_view c.args.file.now) c.in-Err-elaborate.fault c.refuse_name-in-Err-elaborate.result c.in-Err-elaborate.ensures.fault c.refuse_name-in-Err-elaborate.ensures
