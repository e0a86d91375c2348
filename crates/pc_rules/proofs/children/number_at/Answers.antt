use Rattle.std.proofs.Common.{◌∙◌}
use Rattle.pc_rules.proofs.Found.{got}
use Rattle.pc_rules.proofs.children.number_at.Goals as goal

pub returns : goal.returns
returns c = c.copied.ensures ∙ got c.args.numbers.now c.args.index c.get.result c.get.ensures.lookup
