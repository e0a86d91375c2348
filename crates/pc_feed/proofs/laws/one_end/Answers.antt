use Rattle.pc_feed.proofs.Lawful.{one_end}
use Rattle.pc_feed.proofs.laws.one_end.Goals as goal

pub returns : goal.returns
returns c = one_end
