use Rattle.pc_rules.proofs.Lawful.{consume_takes_out}
use Rattle.pc_rules.proofs.laws.consume_takes_out.Goals as goal

pub returns : goal.returns
returns c = consume_takes_out
