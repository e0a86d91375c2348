use Rattle.pc_grammar_total.proofs.Answered.{expr_has_one, expr_deep_opens, expr_openers}
use Rattle.pc_grammar_total.proofs.laws.expressions_are_answered.Goals as goal

pub returns : goal.returns
returns c = record { answered = expr_has_one; deep = expr_deep_opens; openers = expr_openers }
