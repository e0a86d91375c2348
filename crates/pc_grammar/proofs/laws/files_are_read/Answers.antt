use Rattle.pc_grammar.proofs.{FileRight.{file_is_read, file_is_refused, file_is_too_deep, file_is_one}, FileAnswers.{file_is_answered, one_file_answer}}
use Rattle.pc_grammar.proofs.laws.files_are_read.Goals as goal

pub returns : goal.returns
returns c = record { reads = file_is_read; refuses = file_is_refused; deep = file_is_too_deep; one = file_is_one; answered = file_is_answered; answer = one_file_answer }
