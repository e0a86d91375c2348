use Rattle.std.proofs.Common.{length, ◌-◌, ◌≤◌, take}
use Rattle.pc_lex.specs.Pieces.{Written}
use Rattle.pc_lex.proofs.texts.unescape.Given as goal

abbrev pub invariant-loop-at : goal.invariant-loop-at
invariant-loop-at l = (l.at ≤ length l.body) × Written (take l.at l.body) l.bytes

abbrev pub decreases-loop-at : goal.decreases-loop-at
decreases-loop-at l = length l.body - l.at
