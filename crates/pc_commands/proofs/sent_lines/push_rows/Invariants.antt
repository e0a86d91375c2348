use Rattle.std.proofs.Common.{◌≡◌, ◌++◌, drop}
use Rattle.pc_commands.specs.SendsLines.{rows_text}
use Rattle.pc_commands.proofs.sent_lines.push_rows.Given as goal

abbrev pub invariant-loop-row : goal.invariant-loop-row
invariant-loop-row l = l.text.items ++ rows_text l.core (drop l.row-index l.rows) ≡ l.initial.text.items ++ rows_text l.core l.rows
