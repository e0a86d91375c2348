use Rattle.std.proofs.Common.{◌∙◌}
use Rattle.pc_rules.proofs.Found.{got}
use Rattle.pc_rules.proofs.parts.last_child.Goals as goal

pub returns : goal.returns
returns c = c.copied.ensures ∙ got c.args.children.now _ c.get.result c.get.ensures.lookup
