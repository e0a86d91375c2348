use Rattle.pc_emit.specs.Closing.{arm_closes}
use Rattle.std.proofs.Common.{◌∙◌}
use Rattle.pc_emit.proofs.Walks.{closed_last, shorter}
use Rattle.pc_emit.proofs.waiting.close_arms.Goals as goal

pub close-smaller : goal.close-smaller
close-smaller c = shorter c.close.arms c.take_last.new.waiting c.in-Some.arm c.in-Some.ensures

pub close-preserved : goal.close-preserved
close-preserved c = closed_last (arm_closes c.args.setting.now.number c.args.setting.now.depth) c.close.arms c.take_last.new.waiting c.in-Some.arm c.close.top c.in_ok-top.top c.close.nodes c.close_arm.new.nodes c.in-Some.ensures c.in_ok-top.ensures ∙ c.close.invariant
