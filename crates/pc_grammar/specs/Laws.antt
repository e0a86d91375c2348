-- The reading of tokens is right, and nothing is spelled in two ways.
use Rattle.std.specs.Prelude.{◌≡◌, ℕ, suc, List, [], ◌∷◌, Ok, Err}
use Rattle.pc_tree.specs.Depths.{depth, seq_depth, file_depth}
use Rattle.pc_token.specs.declared.kinds.Token.{Token}
use Rattle.pc_grammar.specs.{Spells.{Spells, SpellsInfix, SpellsSeq, SpellsFile}, ReadingFile.file, FileAnswers.{IsTooDeep, FileAnswer, IsFileAnswer}, Parts.inner_levels, Parsing.{IsOne, IsOneAnswer, IsRead, IsRefused}, Reading.{ReadingOutcome, Parser, unexpected, too_deep, seq, expr, infix_}}
use Rattle.pc_tree.specs.Tree as t
use Rattle.pc_grammar.specs.FileAnswers as answer

module _ {A : Type 0} (spells : A → List Token → Type 0) (depth_of : A → ℕ) (reading : ℕ → Parser A) where
  -- What is read is what the tokens spell, within the levels, and the next token does not continue it.
  abbrev pub ReadsRight : Type 0
  ReadsRight = (n : ℕ) (ts rest : List Token) (tree : A) → reading n ts ≡ Ok (tree, rest) → IsRead spells depth_of n ts tree rest

  -- If a token is unexpected, those before it begin a tree within the levels but spell none, and with it none begins.
  abbrev pub RefusesRight : Type 0
  RefusesRight = (n : ℕ) (ts : List Token) (x : Token) (rest : List Token) → reading n ts ≡ Err (unexpected, x ∷ rest) → IsRefused spells depth_of n ts (x ∷ rest)

  -- If a token opens a level too many, those before it begin a tree within the levels, and with it only deeper trees
  -- begin.
  abbrev pub DeepRight : Type 0
  DeepRight = (n : ℕ) (ts rest : List Token) → reading n ts ≡ Err (too_deep, rest) → IsTooDeep spells depth_of n ts rest

abbrev pub SeqIsOne : Type 0
SeqIsOne = IsOne SpellsSeq

abbrev pub ExprIsOne : Type 0
ExprIsOne = IsOne Spells

abbrev pub SeqReadsRight : Type 0
SeqReadsRight = ReadsRight SpellsSeq seq_depth seq

abbrev pub SeqRefusesRight : Type 0
SeqRefusesRight = RefusesRight SpellsSeq seq_depth seq

abbrev pub SeqDeepRight : Type 0
SeqDeepRight = DeepRight SpellsSeq seq_depth seq

abbrev pub ExprReadsRight : Type 0
ExprReadsRight = ReadsRight Spells depth expr

abbrev pub ExprRefusesRight : Type 0
ExprRefusesRight = RefusesRight Spells depth expr

abbrev pub ExprDeepRight : Type 0
ExprDeepRight = DeepRight Spells depth expr

abbrev pub InfixReadsRight : Type 0
InfixReadsRight = ReadsRight SpellsInfix depth infix_

abbrev pub InfixRefusesRight : Type 0
InfixRefusesRight = RefusesRight SpellsInfix depth infix_

abbrev pub InfixDeepRight : Type 0
InfixDeepRight = DeepRight SpellsInfix depth infix_

abbrev pub SeqOneAnswer : Type 0
SeqOneAnswer = (n : ℕ) → IsOneAnswer SpellsSeq seq_depth n

abbrev pub ExprOneAnswer : Type 0
ExprOneAnswer = (n : ℕ) → IsOneAnswer Spells depth n

abbrev pub InfixOneAnswer : Type 0
InfixOneAnswer = (n : ℕ) → IsOneAnswer SpellsInfix depth n

-- for files, with n levels in a body or a value: a body is at level 1
abbrev pub FileReadsRight : Type 0
FileReadsRight = (n : ℕ) (ts rest : List Token) (f : t.File) → file n ts ≡ Ok (f, rest) → IsRead SpellsFile file_depth (suc n) ts f rest

abbrev pub FileRefusesRight : Type 0
FileRefusesRight = (n : ℕ) (ts : List Token) (x : Token) (rest : List Token) → file n ts ≡ Err (unexpected, x ∷ rest) → IsRefused SpellsFile file_depth (suc n) ts (x ∷ rest)

abbrev pub FileDeepRight : Type 0
FileDeepRight = (n : ℕ) (ts rest : List Token) → file n ts ≡ Err (too_deep, rest) → IsTooDeep SpellsFile file_depth (suc n) ts rest

abbrev pub FileIsOne : Type 0
FileIsOne = IsOne SpellsFile

-- The answer of reading for the whole list. If the list ends before its file does, no token is at fault, and nothing is
-- claimed.
abbrev pub AnswersFor : List Token → ReadingOutcome t.File → Type 0
AnswersFor ts (Ok (f, [])) = IsFileAnswer ts (answer.spelled f)
AnswersFor ts (Ok (f, x ∷ rest)) = IsFileAnswer ts (answer.unexpected (x ∷ rest))
AnswersFor ts (Err (unexpected, [])) = Unit {0}
AnswersFor ts (Err (unexpected, x ∷ rest)) = IsFileAnswer ts (answer.unexpected (x ∷ rest))
AnswersFor ts (Err (too_deep, rest)) = IsFileAnswer ts (answer.too_deep rest)

-- There is at most one answer.
abbrev pub OneFileAnswer : Type 0
OneFileAnswer = (ts : List Token) (one other : FileAnswer) → IsFileAnswer ts one → IsFileAnswer ts other → one ≡ other

-- A body and a value are at level 1.
abbrev pub FileIsAnswered : Type 0
FileIsAnswered = (ts : List Token) → AnswersFor ts (file inner_levels ts)
