use Rattle.pc_refusal_lines.proofs.Places.{at_start, at_next}
use Rattle.pc_refusal_lines.proofs.place.place_after.Goals as goal

pub loop-byte-init : goal.loop-byte-init
loop-byte-init c = at_start c.args.front.now

pub loop-byte-preserved : goal.loop-byte-preserved
loop-byte-preserved c =
    at_next c.args.front.now c.loop-byte.byte-index c.loop-byte.place.line c.loop-byte.place.column c.next_place-place.result.line c.next_place-place.result.column
    c.loop-byte-test.true c.loop-byte.invariant c.next_place-place.ensures.line c.next_place-place.ensures.column
