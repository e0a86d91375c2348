use Rattle.std.proofs.Common.{◌≡◌, ◌++◌, drop}
use Rattle.pc_commands.specs.SendsLines.{never_text}
use Rattle.pc_commands.proofs.sent_lines.push_never.Given as goal

abbrev pub invariant-loop-method : goal.invariant-loop-method
invariant-loop-method l = l.text.items ++ never_text l.core (drop l.method-index l.methods) ≡ l.initial.text.items ++ never_text l.core l.methods
