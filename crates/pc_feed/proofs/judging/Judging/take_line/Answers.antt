use Rattle.std.proofs.Common.{refl}
use Rattle.pc_feed.proofs.{Taking.{passed_over, same_nodes}, Places.right_within}
use Rattle.pc_feed.proofs.judging.Judging.take_line.Goals as goal

pub returns-in-Some : goal.returns-in-Some
returns-in-Some g c = λ ls m h. (
  passed_over c.args.core.now ls c.args.line c.args.self.now _ c.in-Some.is h,
  same_nodes ls c.args.line c.args.self.now.right c.args.self.now.right (g.R.Referee.asked c.args.referee.now) (g.R.Referee.asked c.args.referee.now) (right_within c.args.core.now ls c.args.self.now c.args.self.now.fault h) refl refl,
)
