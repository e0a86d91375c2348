use Rattle.std.proofs.Common.{arith}
use Rattle.pc_sub.proofs.Grouping.{begin_as}
use Rattle.pc_sub.proofs.groups.begin_group.Goals as goal

pub add_at-requires : goal.add_at-requires
add_at-requires c =
    let low = (c.formed.ensures.methods c.args.number c.args.method.now c.requires.there).name in
    let names = c.requires.grouped.names in
    omega (arith, low, names)

pub returns : goal.returns
returns c =
    let g = c.args.groups.now in
    let y = c.args.method.now in
    let low = (c.formed.ensures.methods c.args.number y c.requires.there).name in
    let names = c.requires.grouped.names in
    begin_as c.args.core.now c.args.number y g.firsts g.entities g.named c.requires.there c.requires.grouped
    c.len-group.result c.push-2.new.self c.new-entities.result c.push.new.self c.push-3.new.self c.add_at.new.lists
    c.len-group.ensures (omega (arith, low, names)) c.new-entities.ensures c.in_ok-push.ensures.ok c.in_ok-push-2.ensures.ok c.in_ok-push-3.ensures.ok c.in_ok-add_at.ensures
