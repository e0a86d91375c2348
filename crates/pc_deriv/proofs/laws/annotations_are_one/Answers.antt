use Rattle.pc_deriv.proofs.Outcome.{one_annotation}
use Rattle.pc_deriv.proofs.laws.annotations_are_one.Goals as goal

pub returns : goal.returns
returns c = one_annotation
