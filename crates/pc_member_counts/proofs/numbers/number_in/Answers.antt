use Rattle.std.proofs.Common.{sym, ◌∙◌}
use Rattle.pc_member_counts.proofs.Places.{missed_is}
use Rattle.pc_member_counts.proofs.numbers.number_in.Goals as goal

pub returns-in-None : goal.returns-in-None
returns-in-None c = c.len.ensures ∙ sym (missed_is c.args.names.now c.args.text.now (sym c.find.ensures ∙ c.in-None.is))
