use Rattle.std.proofs.Common.{arith}
use Rattle.pc_core.specs.EntitySets.{Holds}
use Rattle.pc_sub.proofs.ServedBy.{group_list, group_within, serves_then}
use Rattle.pc_sub.proofs.serving.add_group.Goals as goal

pub add_all-requires : goal.add_all-requires
add_all-requires c =
    let core = c.args.core.now in
    let g = c.args.groups.now in
    let wanted = c.args.wanted.now in
    let group = group_list core g wanted c.requires.grouped c.args.group c.as_slice.result.now c.list_at.result.now c.as_slice.ensures c.list_at.ensures (c.group_serves.ensures.0 c.if-group_serves.true) in
    let room = c.requires.room in
    λ i e at.
    let low = group_within core g wanted c.requires.grouped c.args.group group.0 c.list_at.result.now c.formed.ensures group.1 i e at in
    omega (arith, low, room)

pub returns-then-group_serves-clause-has : goal.returns-then-group_serves-clause-has
returns-then-group_serves-clause-has c =
    let core = c.args.core.now in
    let g = c.args.groups.now in
    let wanted = c.args.wanted.now in
    let group = group_list core g wanted c.requires.grouped c.args.group c.as_slice.result.now c.list_at.result.now c.as_slice.ensures c.list_at.ensures (c.group_serves.ensures.0 c.if-group_serves.true) in
    λ e. serves_then core g wanted c.args.group e c.list_at.result.now group.0 (Holds c.add_all.new.set e) (Holds c.args.set.now e) group.1 group.2 (c.add_all.ensures.has e)
