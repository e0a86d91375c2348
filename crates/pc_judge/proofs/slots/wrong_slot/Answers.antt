use Rattle.std.proofs.{Common.{◌+◌, ap}, lemmas.Bool.both_ways}
use Rattle.pc_judge.proofs.Kept.{first_wrong, kept_next, kept_all}
use Rattle.pc_judge.proofs.slots.wrong_slot.Goals as goal

pub returns-then-not-keeps_type : goal.returns-then-not-keeps_type
returns-then-not-keeps_type c =
    first_wrong c.args.core.now c.args.ann.now c.slots-slot-items.result.now c.loop-slot.number c.loop-slot.slot-index _ c.slots-slot-items.ensures c.loop-slot-test.true c.loop-slot.invariant.at c.loop-slot.invariant.kept
    (λ h. both_ways c.keeps_type.result c.if-not-keeps_type.true (c.keeps_type.ensures.1 h))

pub loop-slot-preserved : goal.loop-slot-preserved
loop-slot-preserved c =
    record {
      kept =
          kept_next c.args.core.now c.args.ann.now c.slots-slot-items.result.now c.loop-slot.number c.loop-slot.slot-index _ c.slots-slot-items.ensures c.loop-slot-test.true c.loop-slot.invariant.at c.loop-slot.invariant.kept
          (c.keeps_type.ensures.0 c.if-not-keeps_type.false);
      at = ap (λ n. n + 1) c.loop-slot.invariant.at;
    }

pub returns : goal.returns
returns c = kept_all c.args.core.now c.args.ann.now c.slots-slot-items.result.now c.loop-slot.slot-index c.slots-slot-items.ensures c.loop-slot-test.false c.loop-slot.invariant.kept
