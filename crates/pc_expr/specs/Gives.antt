-- What a rule of the parser returns, in terms of reading with one token of lookahead.
use Rattle.std.specs.Prelude.{◌≡◌, ℕ, ◌<◌, List, [], ◌∷◌, drop, length, Result, Ok, Err}
use Rattle.pc_token.specs.declared.kinds.Token.{Token}
use Rattle.pc_expr.specs.declared.stop.ParseStop.{ParseStop}
use Rattle.pc_grammar.specs.Reading.{ReadingOutcome, unexpected, too_deep}
use Rattle.pc_token.specs.declared.kinds.TokenKind.TheVariants as k
use Rattle.pc_expr.specs.declared.stop.ParseStop.TheVariants as stop

-- the last token is `End`
abbrev pub EndsWithEnd : List Token → Type 0
EndsWithEnd [] = ⊥
EndsWithEnd (x ∷ []) = x.kind ≡ k.End
EndsWithEnd (x ∷ y ∷ ts) = EndsWithEnd (y ∷ ts)

-- there is a token at this place, and the tokens from it on end with `End`
pub record StandsAtToken (tokens : List Token) (at : ℕ) : Type 0 where
  pub within : at < length tokens
  pub ends : EndsWithEnd (drop at tokens)

pub record Moves (tokens : List Token) (at to : ℕ) : Type 0 where
  pub past : at < to
  pub there : StandsAtToken tokens to

abbrev pub Stops : {Y : Type 0} → List Token → ParseStop → ReadingOutcome Y → Type 0
Stops tokens (stop.Unexpected p) read = (read ≡ Err (unexpected, drop p tokens)) × (p < length tokens)
Stops tokens (stop.TooDeep p) read = (read ≡ Err (too_deep, drop p tokens)) × (p < length tokens)
Stops tokens stop.Memory read = Unit {0}

abbrev pub GivesReading : {X Y : Type 0} → (X → Y) → List Token → Result (X × ℕ) ParseStop → ReadingOutcome Y → Type 0
GivesReading view tokens (Ok r) read = read ≡ Ok (view r.0, drop r.1 tokens)
GivesReading view tokens (Err e) read = Stops tokens e read
