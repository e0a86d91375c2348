use Rattle.pc_feed.proofs.Noted.{waiting_tells}
use Rattle.pc_feed.proofs.laws.waiting_notes_tell.Goals as goal

pub returns : goal.returns
returns c = waiting_tells
