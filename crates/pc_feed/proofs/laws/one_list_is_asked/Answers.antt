use Rattle.pc_feed.proofs.Lawful.{one_list}
use Rattle.pc_feed.proofs.laws.one_list_is_asked.Goals as goal

pub returns : goal.returns
returns c = one_list
