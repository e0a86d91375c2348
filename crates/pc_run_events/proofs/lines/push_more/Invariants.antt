use Rattle.std.proofs.Common.{◌≡◌, ◌++◌, drop}
use Rattle.pc_run_events.specs.Parts.{more_text}
use Rattle.pc_run_events.proofs.lines.push_more.Given as goal

abbrev pub invariant-loop-number : goal.invariant-loop-number
invariant-loop-number l = l.text.items ++ more_text (drop l.number-index l.numbers) ≡ l.initial.text.items ++ more_text l.numbers
