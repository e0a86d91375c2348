use Rattle.pc_top.proofs.Verdicts.{derivable_isolated}
use Rattle.pc_top.proofs.laws.derivable_sources_are_isolated.Goals as goal

pub returns : goal.returns
returns c = derivable_isolated c.cores_of_sources_are_formed.ensures c.valid_is_isolated.ensures c.valid_is_passed_whole.ensures
