use Rattle.std.proofs.Common.{ap, length, arith}
use Rattle.pc_sub.proofs.Grouping.{none_as}
use Rattle.pc_sub.proofs.groups.no_groups.Goals as goal

pub returns : goal.returns
returns c =
    let many = c.loop.invariant in
    let high = c.loop-test.false in
    let low = c.loop.auto.counter-end in
    let same = ap length c.names-end.ensures in
    none_as c.args.core.now c.new-2.result c.new-3.result c.loop.named c.new-2.ensures c.new-3.ensures (omega (arith, many, high, low, same))
