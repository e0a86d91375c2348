use Rattle.pc_grammar.proofs.{Right.{seq_reads, seq_refuses, seq_deep, seq_one}, OneAnswer.seq_answer}
use Rattle.pc_grammar.proofs.laws.sequences_are_read.Goals as goal

pub returns : goal.returns
returns c = record { reads = seq_reads; refuses = seq_refuses; deep = seq_deep; one = seq_one; answer = seq_answer }
