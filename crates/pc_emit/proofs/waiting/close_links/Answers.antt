use Rattle.pc_emit.proofs.Walks.{shorter}
use Rattle.pc_emit.proofs.waiting.close_links.Goals as goal

pub close-smaller : goal.close-smaller
close-smaller c = shorter c.close.links c.take_last.new.waiting c.in-Some.link c.in-Some.ensures
