use Rattle.pc_check.proofs.Agreement.{none_with_unset}
use Rattle.pc_check.proofs.laws.nothing_is_derivable_with_a_field_unset.Goals as goal

pub returns : goal.returns
returns c = none_with_unset
