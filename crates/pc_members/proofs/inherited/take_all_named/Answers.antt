use Rattle.std.proofs.Common.{◌+◌, drop, arith}
use Rattle.pc_members.specs.{Numbered.numbered_table, Views.members_view}
use Rattle.pc_members.proofs.Firsts.{taken_turn}
use Rattle.pc_base.proofs.Cuts.{item_first}
use Rattle.pc_members.proofs.inherited.take_all_named.Goals as goal

pub loop-name-preserved : goal.loop-name-preserved
loop-name-preserved c =
    taken_turn c.args.kind c.args.entities.now c.loop-name.known c.take_named.new.known (numbered_table c.args.table.now) (drop c.loop-name.name-index c.args.provides.now) (drop (c.loop-name.name-index + 1) c.args.provides.now) c.name-item.result _ (members_view c.loop-name.list) (members_view c.take_named.new.list)
    (item_first c.args.provides.now c.loop-name.name-index c.name-item.result (omega (arith, c.loop-name-test.true)) c.name-item.is) c.loop-name.invariant c.in_ok-take_named.ensures.list c.in_ok-take_named.ensures.known
