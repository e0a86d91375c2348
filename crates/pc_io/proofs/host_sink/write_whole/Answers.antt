use Rattle.std.proofs.{Common.arith, lemmas.Grind.common_steps, KnownBytes.Appends-kept}
use Rattle.pc_io.proofs.{Progress.further, host_sink.write_whole.Goals.{in-Ok, in-Err+else-ne}}
use Rattle.pc_io.proofs.host_sink.write_whole.Goals as goal

pub loop-preserved : goal.loop-preserved
loop-preserved g c = elim c.match-write.branch [
  | in-Ok w ↦
      further _ _ _ c.args.piece.now _ c.loop.at w.in-Ok.count c.match-write.at (grind (arith, common_steps)) w.at-is c.loop.invariant.0 c.loop.invariant.1
      w.in-Ok.ensures.bound w.in-Ok.ensures.bytes
  | in-Err+else-ne w ↦
      rw w.at-is (c.loop.invariant.0, Appends-kept _ _ _ _ c.loop.invariant.1 w.in-Err.ensures.bytes)
]
