use Rattle.pc_sched_lines.proofs.OneLine.{lines_one}
use Rattle.pc_sched_lines.proofs.laws.lines_are_one.Goals as goal

pub returns : goal.returns
returns c = lines_one
