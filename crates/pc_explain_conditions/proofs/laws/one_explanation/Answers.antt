use Rattle.pc_explain_conditions.proofs.One.{one_explanation}
use Rattle.pc_explain_conditions.proofs.laws.one_explanation.Goals as goal

pub returns : goal.returns
returns c = one_explanation
