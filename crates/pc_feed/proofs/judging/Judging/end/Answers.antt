use Rattle.std.proofs.Common.{refl}
use Rattle.pc_feed.proofs.Ending.{valid_end, wrong_end}
use Rattle.pc_feed.proofs.judging.Judging.end.Goals as goal

pub returns-in-None : goal.returns-in-None
returns-in-None c = λ version ann h. valid_end c.args.core.now c.formed.ensures version ann c.args.self.now (c.in-Ok.ensures.ok.0 refl) c.in-None.is h

pub returns-in-Some : goal.returns-in-Some
returns-in-Some c = λ version ann h. wrong_end c.args.core.now version ann c.args.self.now c.in-Some.fault (c.in-Ok.ensures.ok.0 refl) c.in-Some.is h
