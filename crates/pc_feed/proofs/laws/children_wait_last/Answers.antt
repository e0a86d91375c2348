use Rattle.pc_feed.proofs.PostOrder.{children_wait_last}
use Rattle.pc_feed.proofs.laws.children_wait_last.Goals as goal

pub returns : goal.returns
returns c = children_wait_last
