use Rattle.pc_token.proofs.WordFacts.{word_own, word_sound}
use Rattle.pc_token.proofs.laws.one_word_a_spelling.Goals as goal

pub returns : goal.returns
returns c = record { found = word_own; only = word_sound }
