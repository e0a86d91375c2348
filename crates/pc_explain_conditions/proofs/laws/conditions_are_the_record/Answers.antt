use Rattle.pc_explain_conditions.proofs.Explained.{conditions_are_the_record}
use Rattle.pc_explain_conditions.proofs.laws.conditions_are_the_record.Goals as goal

pub returns : goal.returns
returns c = conditions_are_the_record
