use Rattle.pc_grammar.proofs.{Right.{infix_reads, infix_refuses, infix_deep}, OneAnswer.infix_answer}
use Rattle.pc_grammar.proofs.laws.infixes_are_read.Goals as goal

pub returns : goal.returns
returns c = record { reads = infix_reads; refuses = infix_refuses; deep = infix_deep; answer = infix_answer }
