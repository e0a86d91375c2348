use Rattle.std.proofs.Common.{sym}
use Rattle.pc_rules.proofs.Gathered.{either_length}
use Rattle.pc_rules.proofs.children.count_in.Goals as goal

pub returns-else-held : goal.returns-else-held
returns-else-held c = sym (either_length c.args.held c.args.notes.now c.args.numbers.now c.if-held.false c.requires)
