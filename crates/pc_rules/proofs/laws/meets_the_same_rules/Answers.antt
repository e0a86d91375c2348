use Rattle.pc_rules.proofs.Derivations.{meets_the_same_rules}
use Rattle.pc_rules.proofs.laws.meets_the_same_rules.Goals as goal

pub returns : goal.returns
returns c = meets_the_same_rules
