use Rattle.std.proofs.Common.{length, ◌-◌, ◌+◌, ◌≡◌, ◌<◌, ◌≤◌, drop}
use Rattle.pc_lex.specs.Reading.{behind}
use Rattle.pc_lex.proofs.comments.block_len.Given as goal

abbrev pub invariant-loop-at : goal.invariant-loop-at
invariant-loop-at l = (l.at ≤ length l.text) × (0 < l.depth) × (l.depth ≤ l.at + 1) × (behind l.depth (drop l.at l.text) ≡ behind 1 l.text)

abbrev pub decreases-loop-at : goal.decreases-loop-at
decreases-loop-at l = length l.text - l.at
