use Rattle.pc_body_spec.proofs.Once.{locals_are_defined_once, added_locals_are_defined_once}
use Rattle.pc_body_spec.proofs.laws.locals_are_defined_once.Goals as goal

pub returns : goal.returns
returns c = record { written = locals_are_defined_once; added = added_locals_are_defined_once }
