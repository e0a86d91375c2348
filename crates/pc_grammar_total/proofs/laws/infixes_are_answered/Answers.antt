use Rattle.pc_grammar_total.proofs.Answered.{infix_has_one, infix_deep_opens, infix_openers}
use Rattle.pc_grammar_total.proofs.laws.infixes_are_answered.Goals as goal

pub returns : goal.returns
returns c = record { answered = infix_has_one; deep = infix_deep_opens; openers = infix_openers }
