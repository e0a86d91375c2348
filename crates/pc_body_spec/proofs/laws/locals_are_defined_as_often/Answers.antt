use Rattle.pc_body_spec.proofs.Counts.{defined_as_often}
use Rattle.pc_body_spec.proofs.laws.locals_are_defined_as_often.Goals as goal

pub returns : goal.returns
returns c = defined_as_often
