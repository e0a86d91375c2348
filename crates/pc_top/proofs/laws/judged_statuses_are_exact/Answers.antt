use Rattle.pc_top.proofs.ExactJudging.{judged_exact}
use Rattle.pc_top.proofs.laws.judged_statuses_are_exact.Goals as goal

pub returns : goal.returns
returns c = judged_exact c.verdict_is_one.ensures
