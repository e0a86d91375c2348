-- Which tokens open a level.
use Rattle.std.specs.Prelude.{◌≡◌, Bool, true, false, List, ◌∷◌}
use Rattle.pc_token.specs.{declared.kinds.Token.Token, declared.kinds.TokenKind.TokenKind}
use Rattle.pc_token.specs.declared.kinds.TokenKind.TheVariants as k
use Rattle.pc_token.specs.declared.words.Word.TheVariants as w
use Rattle.pc_token.specs.declared.signs.Sign.TheVariants as s

abbrev pub kind_opens : TokenKind → Bool
kind_opens (k.Sign s.OpenParen) = true
kind_opens (k.Sign s.Assign) = true
kind_opens (k.Word w.IfWord) = true
kind_opens (k.Word w.WhileWord) = true
kind_opens (k.Word w.RecoverWord) = true
kind_opens (k.Word w.NotWord) = true
kind_opens _ = false

-- The `(` of a group or of arguments, `if`, `while`, `recover`, `not`, and the `=` of an assignment: what comes after
-- such a token may be one level further inside.
unfoldable pub opens_level : Token → Bool
opens_level x = kind_opens x.kind

-- The first of these tokens opens a level.
abbrev pub OpensLevel : List Token → Type 0
OpensLevel ts = (x : Token) × (more : List Token) × (ts ≡ x ∷ more) × (opens_level x ≡ true)
