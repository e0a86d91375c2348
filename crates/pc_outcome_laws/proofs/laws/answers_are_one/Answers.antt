use Rattle.pc_outcome_laws.proofs.One.{answers_are_one}
use Rattle.pc_outcome_laws.proofs.laws.answers_are_one.Goals as goal

pub returns : goal.returns
returns c = answers_are_one c.lists_are_one.ensures
