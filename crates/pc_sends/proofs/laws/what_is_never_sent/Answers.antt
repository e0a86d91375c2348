use Rattle.pc_sends.proofs.Small.{never_stops_is}
use Rattle.pc_sends.proofs.laws.what_is_never_sent.Goals as goal

pub returns : goal.returns
returns c = never_stops_is
