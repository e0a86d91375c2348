use Rattle.std.proofs.Common.{◌≡◌, ◌++◌, drop, take}
use Rattle.pc_explain.specs.RuleLines.{lines_after, rule_lines}
use Rattle.pc_explain.proofs.rule_lines.push_rule_lines.Given as goal

abbrev pub invariant-loop-at : goal.invariant-loop-at
invariant-loop-at l = l.out.items ++ lines_after (take l.at l.reported) (drop l.at l.reported) ≡ l.initial.out.items ++ rule_lines l.reported
