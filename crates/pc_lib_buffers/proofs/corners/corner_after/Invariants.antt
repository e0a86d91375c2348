use Rattle.pc_refusal_lines.proofs.Places.{At}
use Rattle.pc_lib_buffers.proofs.corners.corner_after.Given as goal

abbrev pub invariant-loop-byte : goal.invariant-loop-byte
invariant-loop-byte l = At l.front l.byte-index l.corner.line l.corner.column
