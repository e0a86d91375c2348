use Rattle.pc_top.proofs.Verdicts.{derivable_safe}
use Rattle.pc_top.proofs.laws.derivable_sources_are_safe.Goals as goal

pub returns : goal.returns
returns c = derivable_safe c.cores_of_sources_are_formed.ensures c.valid_is_safe.ensures
