use Rattle.std.proofs.Common.{ap, arith, sum}
use Rattle.pc_tally.proofs.Sums.{groups_total, blocks_total}
use Rattle.pc_tally.proofs.tally.Tally.rank.Goals as goal

pub sum_to-before-requires-clause-few : goal.sum_to-before-requires-clause-few
sum_to-before-requires-clause-few c = let b = blocks_total _ _ _ _ c.self.invariant in let e = ap sum c.deref.ensures.value in omega (arith, b, e, c.self.invariant.small)

pub sum_to-before-requires-2-clause-few : goal.sum_to-before-requires-2-clause-few
sum_to-before-requires-2-clause-few c = let b = groups_total _ _ _ _ c.self.invariant in let e = ap sum c.deref-2.ensures.value in omega (arith, b, e, c.self.invariant.small)
