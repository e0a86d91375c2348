use Rattle.pc_grammar.proofs.{Right.{expr_reads, expr_refuses, expr_deep, expr_one}, OneAnswer.expr_answer}
use Rattle.pc_grammar.proofs.laws.expressions_are_read.Goals as goal

pub returns : goal.returns
returns c = record { reads = expr_reads; refuses = expr_refuses; deep = expr_deep; one = expr_one; answer = expr_answer }
