use Rattle.pc_rules.proofs.Derivations.{same_are_valid}
use Rattle.pc_rules.proofs.laws.same_are_valid.Goals as goal

pub returns : goal.returns
returns c = same_are_valid
