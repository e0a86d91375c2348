use Rattle.pc_tree.proofs.Views.{view_args}
use Rattle.pc_emit.proofs.Suffixes.{empty_args}
use Rattle.pc_emit.proofs.chains.is_empty_args.Goals as goal

pub returns-in-Args : goal.returns-in-Args
returns-in-Args c = rw (c.in-Args.is, view_args c.in-Args.args c.in-Args.span) (empty_args c.in-Args.args c.in-Args.span c.is_empty.result c.is_empty.ensures)
