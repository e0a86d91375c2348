use Rattle.std.proofs.Common.{◌≡◌, ◌++◌, drop}
use Rattle.pc_sched_lines.specs.Lines.{more_words}
use Rattle.pc_sched_lines.proofs.lines.push_words.Given as goal

abbrev pub invariant-loop-turn : goal.invariant-loop-turn
invariant-loop-turn l = l.text.items ++ more_words (drop l.turn-index l.turns) ≡ l.initial.text.items ++ more_words l.turns
