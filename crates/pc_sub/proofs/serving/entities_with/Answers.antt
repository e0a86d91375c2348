use Rattle.std.proofs.Common.{◌≤◌, [], ap, length, get_or, refl, arith}
use Rattle.pc_core.specs.EntitySets.{Holds}
use Rattle.pc_sub.proofs.ServedBy.{serves_all, serves_turn}
use Rattle.pc_sub.proofs.serving.entities_with.Goals as goal

pub loop-group-preserved : goal.loop-group-preserved
loop-group-preserved c =
    let g = c.args.groups.now in
    let wanted = c.args.wanted.now in
    let room = c.loop-group.invariant.room in
    let same = c.add_group.ensures.room in
    record {
      room = omega (arith, room, same);
      has = serves_turn c.args.core.now g wanted c.list_at-group-items.result.now (get_or g.named wanted.name []) c.loop-group.group-index (Holds c.loop-group.set) (Holds c.add_group.new.set) c.list_at-group-items.ensures c.loop-group-test.true c.loop-group.invariant.has c.add_group.ensures.has;
    }

pub returns : goal.returns
returns c =
    let g = c.args.groups.now in
    let wanted = c.args.wanted.now in
    let ks = get_or g.named wanted.name [] in
    let high = c.loop-group-test.false in
    let many = ap length c.list_at-group-items.ensures in
    let whole : length ks ≤ c.loop-group.group-index = omega (arith, high, many) in
    λ e low.
    let k = serves_all c.args.core.now g wanted c.requires ks c.loop-group.group-index e refl whole in
    let m = c.loop-group.invariant.has e in
    (λ h. k.0 (m.0 h), λ h. m.1 (k.1 h))
