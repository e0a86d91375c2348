use Rattle.std.proofs.Common.{refl}
use Rattle.pc_feed.proofs.reading.Reading.judge_line.Goals as goal

pub returns-in-Ok : goal.returns-in-Ok
returns-in-Ok g c = λ ls m h. let k = c.in-Ok.ensures ls m h in (c.requires.right, refl, k.0, k.1)
