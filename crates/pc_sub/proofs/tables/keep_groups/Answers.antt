use Rattle.std.proofs.Common.{◌≡◌, length, subst, arith}
use Rattle.pc_sub.specs.Tables.{TellsGroups}
use Rattle.pc_sub.proofs.tables.keep_groups.Goals as goal

pub returns : goal.returns
returns c =
    let g = c.args.groups.now in
    let high = c.loop-group-test.false in
    let low = c.loop-group.auto.group-end in
    let many = c.len-group-end.ensures in
    let all : c.loop-group.group ≡ length g.firsts = omega (arith, high, low, many) in
    subst (λ n. TellsGroups c.args.core.now g n c.loop-group.sets) all c.loop-group.invariant
