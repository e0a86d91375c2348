use Rattle.std.proofs.Common.{arith, ◌++◌, length}
use Rattle.pc_members.specs.Edges.{above_all}
use Rattle.pc_members.proofs.Reaches.{above_goes}
use Rattle.pc_members.proofs.reach.add_reached.Goals as goal

pub loop-from-preserved : goal.loop-from-preserved
loop-from-preserved c =
    above_goes c.args.edges.now (c.args.lists.now ++ above_all c.args.edges.now) c.loop-from.lists c.push.new.self c.loop-from.from (length c.args.edges.now) c.in_ok-reach.field-0 (omega (arith, c.loop-from-test.true))
    c.loop-from.invariant c.in_ok-reach.ensures c.in_ok-push.ensures.ok
