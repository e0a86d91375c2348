use Rattle.std.proofs.Common.{length, ◌-◌, ◌+◌, ◌≡◌, ◌≤◌, drop}
use Rattle.std.specs.List.{prefix_len}
use Rattle.pc_refusal_lines.specs.Lines.{is_in_line}
use Rattle.pc_explain_window.proofs.window.to_line_end.Given as goal

abbrev pub invariant-loop-end : goal.invariant-loop-end
invariant-loop-end l = (l.end ≤ length l.rest) × (l.end + prefix_len is_in_line (drop l.end l.rest) ≡ prefix_len is_in_line l.rest)

abbrev pub decreases-loop-end : goal.decreases-loop-end
decreases-loop-end l = length l.rest - l.end
