use Rattle.pc_body_spec.proofs.Places.{first_is_least, locals_have_slots}
use Rattle.pc_body_spec.proofs.laws.names_stand_in_order.Goals as goal

pub returns : goal.returns
returns c = record { first = first_is_least; slots = locals_have_slots }
