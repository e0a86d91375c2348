use Rattle.pc_body_spec.proofs.Locals.{locals_are_defined}
use Rattle.pc_body_spec.proofs.laws.locals_are_defined.Goals as goal

pub returns : goal.returns
returns c = locals_are_defined
