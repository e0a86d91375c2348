use Rattle.pc_rules.proofs.Derivations.{same_are_unset}
use Rattle.pc_rules.proofs.laws.same_are_unset.Goals as goal

pub returns : goal.returns
returns c = same_are_unset
