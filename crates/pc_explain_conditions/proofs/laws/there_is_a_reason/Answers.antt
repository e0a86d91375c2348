use Rattle.pc_explain_conditions.proofs.SomeReason.{some_reason}
use Rattle.pc_explain_conditions.proofs.laws.there_is_a_reason.Goals as goal

pub returns : goal.returns
returns c = some_reason
