use Rattle.pc_grammar_total.proofs.Answered.{file_has_one, file_deep_opens, file_openers}
use Rattle.pc_grammar_total.proofs.laws.files_are_answered.Goals as goal

pub returns : goal.returns
returns c = record { answered = file_has_one; deep = file_deep_opens; openers = file_openers }
