use Rattle.std.proofs.Common.{◌∙◌}
use Rattle.pc_rules.proofs.Further.{one_more_without}
use Rattle.pc_rules.proofs.control.without_items.Goals as goal

pub loop-item-preserved : goal.loop-item-preserved
loop-item-preserved c = one_more_without c.args.core.now c.args.items.now c.loop-item.item-index c.loop-item.left c.without_item-left.result c.loop-item-test.true c.without_item-left.ensures ∙ c.loop-item.invariant
