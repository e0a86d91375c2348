use Rattle.pc_example.proofs.Validity.{derivation_valid}
use Rattle.pc_example.proofs.laws.the_derivation_is_valid.Goals as goal

pub returns : goal.returns
returns c = derivation_valid
