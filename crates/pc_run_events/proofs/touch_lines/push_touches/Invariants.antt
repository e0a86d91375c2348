use Rattle.std.proofs.Common.{◌≡◌, ◌++◌, drop}
use Rattle.pc_run_events.specs.Parts.{touches_text}
use Rattle.pc_run_events.proofs.touch_lines.push_touches.Given as goal

abbrev pub invariant-loop-touch : goal.invariant-loop-touch
invariant-loop-touch l = l.text.items ++ touches_text (drop l.touch-index l.touches) ≡ l.initial.text.items ++ touches_text l.touches
