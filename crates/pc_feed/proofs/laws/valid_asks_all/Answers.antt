use Rattle.pc_feed.proofs.Lawful.{valid_asks_all}
use Rattle.pc_feed.proofs.laws.valid_asks_all.Goals as goal

pub returns : goal.returns
returns c = valid_asks_all
