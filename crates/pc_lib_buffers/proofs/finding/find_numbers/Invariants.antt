use Rattle.pc_lib_buffers.proofs.Walk.{Before}
use Rattle.pc_lib_buffers.proofs.finding.find_numbers.Given as goal

abbrev pub invariant-loop-byte : goal.invariant-loop-byte
invariant-loop-byte l = Before l.numbers l.text l.byte-index l.mark
