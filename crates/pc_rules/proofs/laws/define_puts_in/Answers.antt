use Rattle.pc_rules.proofs.Lawful.{define_puts_in}
use Rattle.pc_rules.proofs.laws.define_puts_in.Goals as goal

pub returns : goal.returns
returns c = define_puts_in
