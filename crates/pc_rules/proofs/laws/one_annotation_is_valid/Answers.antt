use Rattle.pc_rules.proofs.Unique.{one_valid}
use Rattle.pc_rules.proofs.laws.one_annotation_is_valid.Goals as goal

pub returns : goal.returns
returns c = one_valid
