use Rattle.pc_refusal_lines.proofs.Places.{at_start, at_next}
use Rattle.pc_lib_buffers.proofs.corners.corner_after.Goals as goal

pub loop-byte-init : goal.loop-byte-init
loop-byte-init c = at_start c.args.front.now

pub loop-byte-preserved : goal.loop-byte-preserved
loop-byte-preserved c =
    at_next c.args.front.now c.loop-byte.byte-index c.loop-byte.corner.line c.loop-byte.corner.column c.next_corner-corner.result.line c.next_corner-corner.result.column
    c.loop-byte-test.true c.loop-byte.invariant c.next_corner-corner.ensures.line c.next_corner-corner.ensures.column
