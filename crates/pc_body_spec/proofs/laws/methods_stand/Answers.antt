use Rattle.pc_body_spec.proofs.Methods.{methods_stand, added_methods_stand}
use Rattle.pc_body_spec.proofs.laws.methods_stand.Goals as goal

pub returns : goal.returns
returns c = record { written = methods_stand; added = added_methods_stand }
