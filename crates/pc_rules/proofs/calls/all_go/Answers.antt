use Rattle.std.proofs.Common.{◌∙◌}
use Rattle.pc_rules.proofs.Further.{each_goes}
use Rattle.pc_rules.proofs.calls.all_go.Goals as goal

pub returns : goal.returns
returns c = c.arguments_go.ensures ∙ each_goes c.args.core.now c.args.children.now c.args.params.now c.count.result c.count.ensures
