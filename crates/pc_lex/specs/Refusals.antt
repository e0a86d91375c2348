-- What lexing may return.
use Rattle.std.specs.Prelude.{◌≡◌, ℕ, List, Result, Err, ◌⊎◌, ⊤}
use Rattle.pc_token.specs.declared.kinds.Token.{Token}
use Rattle.pc_lex.specs.{declared.fault.LexFault.LexFault, Faults.FirstLexFault}
use Rattle.pc_lex.specs.declared.fault.LexFault.TheVariants as fault

-- The fault is the first of the text, or memory ran out.
abbrev pub RefusesTokens : List ℕ → LexFault → Type 0
RefusesTokens text fault.Memory = ⊤
RefusesTokens text f = FirstLexFault text f

-- The result is this answer, or memory ran out.
abbrev pub AnswersTokens : Result (List Token) LexFault → Result (List Token) LexFault → Type 0
AnswersTokens result wanted = (result ≡ wanted) ⊎ (result ≡ Err fault.Memory)
