use Rattle.pc_lex.proofs.OneCut.{tokens_one}
use Rattle.pc_lex.proofs.laws.tokens_are_one.Goals as goal

pub returns : goal.returns
returns c = tokens_one
