use Rattle.pc_file_spec.proofs.{Bounds.{traits_inherit, bound_is_enough}, Formation.differ_in_entities}
use Rattle.pc_file_spec.proofs.laws.traits_inherit.Goals as goal

pub returns : goal.returns
returns c = record { names = traits_inherit; bound = bound_is_enough; differ = differ_in_entities }
