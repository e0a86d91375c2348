-- What the parser returns.
use Rattle.std.specs.Prelude.{◌≡◌, ◌≢◌, ℕ, ◌<◌, List, ◌∷◌, drop, length, Result, Ok, Err}
use Rattle.pc_token.specs.declared.kinds.Token.{Token}
use Rattle.pc_grammar.specs.{FileAnswers.IsTooDeep, Parsing.{IsRead, IsRefused}}
use Rattle.pc_expr.specs.{declared.stop.ParseStop.ParseStop, declared.fault.ParseFault.ParseFault}
use Rattle.pc_expr.specs.declared.stop.ParseStop.TheVariants as stop
use Rattle.pc_expr.specs.declared.fault.ParseFault.TheVariants as fault

-- the token at a place begins at a byte
abbrev pub Places : List Token → (place byte : ℕ) → Type 0
Places tokens k p = (x : Token) × (more : List Token) × (drop k tokens ≡ x ∷ more) × (x.span.start ≡ p)

-- The result, seen as a tree, is this answer, or memory ran out.
abbrev pub Is : {X Y : Type 0} → (X → Y) → Result (X × ℕ) ParseFault → Result (Y × ℕ) ParseFault → Type 0
Is view (Ok r) answer = answer ≡ Ok (view r.0, r.1)
Is view (Err (fault.Unexpected p)) answer = answer ≡ Err (fault.Unexpected p)
Is view (Err (fault.TooDeep p)) answer = answer ≡ Err (fault.TooDeep p)
Is view (Err fault.Memory) answer = Unit {0}

module _ {A : Type 0} (spells : A → List Token → Type 0) (depth : A → ℕ) (n : ℕ) where
  -- The tokens from `at` up to `to` spell the tree, within n levels, and the token at `to` does not go on with it.
  abbrev pub ReadsTo : List Token → ℕ → A → ℕ → Type 0
  ReadsTo tokens at tree to = (at < to) × (to < length tokens) × IsRead spells depth n (drop at tokens) tree (drop to tokens)

  -- Why there is no tree from `at` on, by the first byte of the token with which nothing begins any more, or with which
  -- only deeper trees begin. Or memory ran out.
  abbrev pub RefusesTree : List Token → ℕ → ParseFault → Type 0
  RefusesTree tokens at (fault.Unexpected p) = (k : ℕ) × Places tokens k p × IsRefused spells depth n (drop at tokens) (drop k tokens)
  RefusesTree tokens at (fault.TooDeep p) = (k : ℕ) × Places tokens k p × IsTooDeep spells depth n (drop at tokens) (drop k tokens)
  RefusesTree tokens at fault.Memory = Unit {0}

  -- a definite answer: a tree and a place, or a fault other than running out of memory
  abbrev pub AnswersTree : List Token → ℕ → Result (A × ℕ) ParseFault → Type 0
  AnswersTree tokens at (Ok r) = ReadsTo tokens at r.0 r.1
  AnswersTree tokens at (Err f) = (f ≢ fault.Memory) × RefusesTree tokens at f

  -- Whatever answer holds for the tokens is the result, unless memory ran out.
  abbrev pub IsOnly : {X : Type 0} → (X → A) → List Token → ℕ → Result (X × ℕ) ParseFault → Type 0
  IsOnly view tokens at result = (answer : Result (A × ℕ) ParseFault) → AnswersTree tokens at answer → Is view result answer

-- a stop is at a token
abbrev pub StopsAtToken : List Token → ParseStop → Type 0
StopsAtToken tokens (stop.Unexpected k) = k < length tokens
StopsAtToken tokens (stop.TooDeep k) = k < length tokens
StopsAtToken tokens stop.Memory = Unit {0}

-- the fault is that of the stop, given by the byte at which its token begins
abbrev pub NamesByte : List Token → ParseStop → ParseFault → Type 0
NamesByte tokens (stop.Unexpected k) f = (p : ℕ) × (f ≡ fault.Unexpected p) × Places tokens k p
NamesByte tokens (stop.TooDeep k) f = (p : ℕ) × (f ≡ fault.TooDeep p) × Places tokens k p
NamesByte tokens stop.Memory f = f ≡ fault.Memory
