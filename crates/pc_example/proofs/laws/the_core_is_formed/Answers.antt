use Rattle.pc_example.proofs.Formation.{four_slots_formed}
use Rattle.pc_example.proofs.laws.the_core_is_formed.Goals as goal

pub returns : goal.returns
returns c = four_slots_formed
