use Rattle.pc_sched.proofs.OneCut.{turns_one}
use Rattle.pc_sched.proofs.laws.turns_are_one.Goals as goal

pub returns : goal.returns
returns c = turns_one
