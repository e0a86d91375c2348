use Rattle.pc_noted_receivers.proofs.Receivers.{accepted_held}
use Rattle.pc_noted_receivers.proofs.laws.accepted_held.Goals as goal

pub returns : goal.returns
returns c = accepted_held
