use Rattle.std.proofs.Common.{◌≡◌, ◌++◌, flat_map, take}
use Rattle.pc_explain.specs.RuleLines.{more_name}
use Rattle.pc_explain.proofs.rule_lines.push_more_names.Given as goal

abbrev pub invariant-later : goal.invariant-later
invariant-later l = l.out.items ≡ l.initial.out.items ++ flat_map (more_name l.sentence) (take l.reported-index l.later)
