use Rattle.pc_check.proofs.Agreement.{none_without_rule}
use Rattle.pc_check.proofs.laws.nothing_is_derivable_without_a_rule.Goals as goal

pub returns : goal.returns
returns c = none_without_rule
