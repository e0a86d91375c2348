use Rattle.pc_rules.proofs.Derivations.{same_have_no_rule}
use Rattle.pc_rules.proofs.laws.same_have_no_rule.Goals as goal

pub returns : goal.returns
returns c = same_have_no_rule
