use Rattle.pc_rules.proofs.Lawful.{seq_takes_out}
use Rattle.pc_rules.proofs.laws.seq_takes_out.Goals as goal

pub returns : goal.returns
returns c = seq_takes_out
