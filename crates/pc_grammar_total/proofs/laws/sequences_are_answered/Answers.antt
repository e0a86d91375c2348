use Rattle.pc_grammar_total.proofs.Answered.{seq_has_one, seq_deep_opens, seq_openers}
use Rattle.pc_grammar_total.proofs.laws.sequences_are_answered.Goals as goal

pub returns : goal.returns
returns c = record { answered = seq_has_one; deep = seq_deep_opens; openers = seq_openers }
