-- What the parser returns.
use Rattle.std.specs.Prelude.{◌≡◌, ℕ, ◌<◌, List, ◌∷◌, drop, length, Result, Ok, Err}
use Rattle.pc_token.specs.declared.kinds.Token.{Token}
use Rattle.pc_tree.specs.{declared.file.File.File, View.file_view}
use Rattle.pc_grammar.specs.FileAnswers.{FileAnswer, spelled, unexpected, too_deep, IsFileAnswer}
use Rattle.pc_expr.specs.{declared.stop.ParseStop.ParseStop, declared.fault.ParseFault.ParseFault, Answers.Places}
use Rattle.pc_expr.specs.declared.stop.ParseStop.TheVariants as stop
use Rattle.pc_expr.specs.declared.fault.ParseFault.TheVariants as fault

-- Why there is no tree, by the first byte of the token with which no file begins any more, or with which only deeper
-- ones begin. Or memory ran out.
abbrev pub RefusesFile : List Token → ParseFault → Type 0
RefusesFile tokens (fault.Unexpected p) = (k : ℕ) × Places tokens k p × IsFileAnswer tokens (unexpected (drop k tokens))
RefusesFile tokens (fault.TooDeep p) = (k : ℕ) × Places tokens k p × IsFileAnswer tokens (too_deep (drop k tokens))
RefusesFile tokens fault.Memory = Unit {0}

-- The result is this answer, with a fault given by the first byte of its token; or memory ran out.
abbrev pub Is : FileAnswer → Result File ParseFault → Type 0
Is answer (Ok f) = answer ≡ spelled (file_view f)
Is answer (Err (fault.Unexpected p)) = (x : Token) × (more : List Token) × (answer ≡ unexpected (x ∷ more)) × (x.span.start ≡ p)
Is answer (Err (fault.TooDeep p)) = (x : Token) × (more : List Token) × (answer ≡ too_deep (x ∷ more)) × (x.span.start ≡ p)
Is answer (Err fault.Memory) = Unit {0}

-- Whatever answer holds for the tokens is the result, unless memory ran out.
abbrev pub IsOnly : List Token → Result File ParseFault → Type 0
IsOnly tokens result = (answer : FileAnswer) → IsFileAnswer tokens answer → Is answer result

-- Why there is no tree, by the place of the token. Or memory ran out.
abbrev pub StopsRight : List Token → ParseStop → Type 0
StopsRight tokens (stop.Unexpected k) = (k < length tokens) × IsFileAnswer tokens (unexpected (drop k tokens))
StopsRight tokens (stop.TooDeep k) = (k < length tokens) × IsFileAnswer tokens (too_deep (drop k tokens))
StopsRight tokens stop.Memory = Unit {0}
