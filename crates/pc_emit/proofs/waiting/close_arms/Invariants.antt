use Rattle.std.proofs.Common.{◌≡◌, length}
use Rattle.pc_emit.specs.Closing.{closing, arm_closes}
use Rattle.pc_emit.proofs.waiting.close_arms.Given as goal

abbrev pub decreases-close : goal.decreases-close
decreases-close l = length l.arms

abbrev pub invariant-close : goal.invariant-close
invariant-close l = closing (arm_closes l.setting.number l.setting.depth) l.arms l.top l.nodes ≡ closing (arm_closes l.setting.number l.setting.depth) l.fn.arms l.fn.last l.fn.nodes
