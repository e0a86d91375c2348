-- Laws of token lists and faults, and what reading one piece means.
use Rattle.std.specs.Prelude.{◌≡◌, ℕ, List, ◌⊎◌}
use Rattle.pc_token.specs.declared.kinds.Token.{Token}
use Rattle.pc_lex.specs.{declared.fault.LexFault.LexFault, Pieces.{Tokens, TokenList}, Faults.FirstLexFault}
use Rattle.pc_lex.specs.declared.fault.LexFault.TheVariants as fault

-- A text has at most one token list.
abbrev pub OneList : Type 0
OneList = (text : List ℕ) (one other : List Token) → Tokens text one → Tokens text other → one ≡ other

-- A text has a token list within the limit, or a first fault.
abbrev pub ListOrFault : Type 0
ListOrFault = (text : List ℕ) → ((tokens : List Token) × TokenList text tokens) ⊎ ((f : LexFault) × FirstLexFault text f)

-- It does not have both.
abbrev pub NotBoth : Type 0
NotBoth = (text : List ℕ) (tokens : List Token) (f : LexFault) → TokenList text tokens → FirstLexFault text f → ⊥

-- A text with a fault other than the number of tokens has no token list, however long.
abbrev pub NoList : Type 0
NoList = (text : List ℕ) (tokens : List Token) (f : LexFault) → ((p : ℕ) → f ≡ fault.TooMany p → ⊥) → Tokens text tokens → FirstLexFault text f → ⊥

-- A text has at most one first fault.
abbrev pub OneFault : Type 0
OneFault = (text : List ℕ) (one other : LexFault) → FirstLexFault text one → FirstLexFault text other → one ≡ other
