use Rattle.std.proofs.Common.{arith}
use Rattle.pc_sub.proofs.Grouping.{first_within, join_as}
use Rattle.pc_sub.proofs.groups.join_group.Goals as goal

pub add_at-requires : goal.add_at-requires
add_at-requires c =
    let first = c.requires.alike in
    let low = first_within c.args.core.now c.args.groups.now.firsts c.args.group first.0 first.1 in
    let count = c.requires.grouped.as_many in
    omega (arith, low, count)

pub returns : goal.returns
returns c =
    let g = c.args.groups.now in
    let y = c.args.method.now in
    let low = (c.formed.ensures.methods c.args.number y c.requires.there).name in
    let names = c.requires.grouped.names in
    join_as c.args.core.now c.args.number y g.firsts g.entities g.named c.requires.there c.requires.grouped c.args.group _ c.requires.named (omega (arith, low, names)) c.requires.alike c.in_ok-add_at.ensures
