use Rattle.pc_explain_conditions.proofs.Explained.{each_rule_fails}
use Rattle.pc_explain_conditions.proofs.laws.each_rule_fails.Goals as goal

pub returns : goal.returns
returns c = each_rule_fails
