use Rattle.std.proofs.Common.{ap, arith, sum}
use Rattle.pc_tally.proofs.Sums.{groups_total, blocks_total}
use Rattle.pc_tally.proofs.tally.Tally.place_of.Goals as goal

pub place_from-block-requires-clause-few : goal.place_from-block-requires-clause-few
place_from-block-requires-clause-few c = let b = blocks_total _ _ _ _ c.self.invariant in let e = ap sum c.deref.ensures.value in omega (arith, b, e, c.self.invariant.small)

pub place_from-block-requires-clause-passed : goal.place_from-block-requires-clause-passed
place_from-block-requires-clause-passed c = let b = blocks_total _ _ _ _ c.self.invariant in let e = ap sum c.deref.ensures.value in omega (arith, b, e, c.if-wanted-self.false)

pub place_from-group-requires-clause-few : goal.place_from-group-requires-clause-few
place_from-group-requires-clause-few c = let b = groups_total _ _ _ _ c.self.invariant in let e = ap sum c.deref-2.ensures.value in omega (arith, b, e, c.self.invariant.small)
