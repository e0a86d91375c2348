use Rattle.std.proofs.Common.{◌≡◌, drop}
use Rattle.pc_token.specs.Finding.{first_word}
use Rattle.pc_token.proofs.words.find_word.Given as goal

abbrev pub invariant-loop-word : goal.invariant-loop-word
invariant-loop-word l = first_word (drop l.word-index l.words) l.text ≡ first_word l.words l.text
