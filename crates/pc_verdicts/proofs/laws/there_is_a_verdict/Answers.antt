use Rattle.pc_verdicts.proofs.Verdicts.{verdict_there}
use Rattle.pc_verdicts.proofs.laws.there_is_a_verdict.Goals as goal

pub returns : goal.returns
returns c = verdict_there c.cores_of_sources_are_formed.ensures c.accepted_never_lacks.ensures c.valid_is_safe.ensures
