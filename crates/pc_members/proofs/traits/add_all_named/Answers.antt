use Rattle.std.proofs.Common.{◌+◌, drop, arith}
use Rattle.pc_members.specs.Numbered.{numbered_table, numbered_view}
use Rattle.pc_members.proofs.Firsts.{first_turn}
use Rattle.pc_base.proofs.Cuts.{item_first}
use Rattle.pc_members.proofs.traits.add_all_named.Goals as goal

pub loop-name-preserved : goal.loop-name-preserved
loop-name-preserved c =
    first_turn c.args.entities.now c.loop-name.known c.add_named.new.known (numbered_table c.args.table.now) (drop c.loop-name.name-index c.args.provides.now) (drop (c.loop-name.name-index + 1) c.args.provides.now) c.name-item.result _ (numbered_view c.loop-name.list) (numbered_view c.add_named.new.list)
    (item_first c.args.provides.now c.loop-name.name-index c.name-item.result (omega (arith, c.loop-name-test.true)) c.name-item.is) c.loop-name.invariant c.in_ok-add_named.ensures.list c.in_ok-add_named.ensures.known
