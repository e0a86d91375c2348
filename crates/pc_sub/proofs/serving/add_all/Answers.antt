use Rattle.std.proofs.{Common.{◌∙◌, arith, get_or}, lemmas.Option.slice_get-get_or}
use Rattle.pc_core.specs.EntitySets.{Holds}
use Rattle.pc_sub.proofs.Looked.{added_next, added_all}
use Rattle.pc_sub.proofs.serving.add_all.Goals as goal

pub add-requires : goal.add-requires
add-requires c =
    let n = c.loop-entity.entity-index in
    let room = c.loop-entity.invariant.room in
    let k = c.requires n (get_or c.args.entities.now n 0) (slice_get-get_or c.args.entities.now n 0 c.loop-entity-test.true) in
    omega (arith, room, k)

pub loop-entity-preserved : goal.loop-entity-preserved
loop-entity-preserved c =
    let n = c.loop-entity.entity-index in
    let x = get_or c.args.entities.now n 0 in
    record {
      room = c.add.ensures.room ∙ c.loop-entity.invariant.room;
      has = added_next c.args.entities.now n x (Holds c.loop-entity.set) (Holds c.add.new.self) (Holds c.args.set.now) (slice_get-get_or c.args.entities.now n 0 c.loop-entity-test.true) c.loop-entity.invariant.has c.add.ensures.has;
    }

pub returns : goal.returns
returns c = record {
  room = c.loop-entity.invariant.room;
  has = added_all c.args.entities.now c.loop-entity.entity-index (Holds c.loop-entity.set) (Holds c.args.set.now) c.loop-entity-test.false c.loop-entity.invariant.has;
}
