use Rattle.std.proofs.Common.{sym, subst}
use Rattle.pc_tree.specs.View.{file_view}
use Rattle.pc_file_spec.specs.Cores.{Stands}
use Rattle.pc_elab.proofs.Wholes.{made_formed, made_stands}
use Rattle.pc_elab.proofs.elaborating.elaborate.Goals as goal

pub finish-requires : goal.finish-requires
finish-requires c =
    made_formed (file_view c.args.file.now) c.args.names.now c.in_ok-made.made c.names_are_in_order.ensures.bodies c.cores_are_formed.ensures c.requires.spelled c.in_ok-made.ensures.few c.requires.collected c.in_ok-made.ensures.core

pub returns-clause-core : goal.returns-clause-core
returns-clause-core c =
    subst (Stands (file_view c.args.file.now)) (sym c.in_ok-finish.ensures)
    (made_stands (file_view c.args.file.now) c.args.names.now c.in_ok-made.made c.in_ok-made.ensures.few c.requires.collected c.in_ok-made.ensures.core)
