-- The reserved words and the signs, their spellings, and tests on a token.
use denote.Enum.Bare.{sameb}
use Rattle.std.specs.Prelude.{ℕ, List, if◌then◌else◌, codes, Bool, false}
use Rattle.pc_token.specs.{declared.words.Word.Word, declared.signs.Sign.Sign, contracts.words.Word.the_type as word_type, contracts.signs.Sign.the_type as sign_type, declared.kinds.Token.Token, declared.kinds.TokenKind.TokenKind}
use Rattle.pc_token.specs.declared.words.Word.TheVariants as word
use Rattle.pc_token.specs.declared.signs.Sign.TheVariants as sign
use Rattle.pc_token.specs.declared.kinds.TokenKind.TheVariants as kind

-- the spelling of a word
abbrev pub word_text : Word → List ℕ
word_text word.ActorWord = codes "actor"
word_text word.ClassWord = codes "class"
word_text word.PrimitiveWord = codes "primitive"
word_text word.TraitWord = codes "trait"
word_text word.FunWord = codes "fun"
word_text word.BeWord = codes "be"
word_text word.NewWord = codes "new"
word_text word.VarWord = codes "var"
word_text word.LetWord = codes "let"
word_text word.IsWord = codes "is"
word_text word.IsntWord = codes "isnt"
word_text word.IsoWord = codes "iso"
word_text word.TrnWord = codes "trn"
word_text word.RefWord = codes "ref"
word_text word.ValWord = codes "val"
word_text word.BoxWord = codes "box"
word_text word.TagWord = codes "tag"
word_text word.IfWord = codes "if"
word_text word.ThenWord = codes "then"
word_text word.ElseifWord = codes "elseif"
word_text word.ElseWord = codes "else"
word_text word.EndWord = codes "end"
word_text word.WhileWord = codes "while"
word_text word.DoWord = codes "do"
word_text word.RecoverWord = codes "recover"
word_text word.ConsumeWord = codes "consume"
word_text word.ThisWord = codes "this"
word_text word.TrueWord = codes "true"
word_text word.FalseWord = codes "false"
word_text word.AndWord = codes "and"
word_text word.OrWord = codes "or"
word_text word.XorWord = codes "xor"
word_text word.NotWord = codes "not"
word_text word.InterfaceWord = codes "interface"
word_text word.StructWord = codes "struct"
word_text word.TypeWord = codes "type"
word_text word.UseWord = codes "use"
word_text word.EmbedWord = codes "embed"
word_text word.ReturnWord = codes "return"
word_text word.BreakWord = codes "break"
word_text word.ContinueWord = codes "continue"
word_text word.ErrorWord = codes "error"
word_text word.TryWord = codes "try"
word_text word.WithWord = codes "with"
word_text word.MatchWord = codes "match"
word_text word.ForWord = codes "for"
word_text word.InWord = codes "in"
word_text word.RepeatWord = codes "repeat"
word_text word.UntilWord = codes "until"
word_text word.WhereWord = codes "where"
word_text word.AsWord = codes "as"
word_text word.ObjectWord = codes "object"
word_text word.LambdaWord = codes "lambda"
word_text word.IfdefWord = codes "ifdef"
word_text word.IftypeWord = codes "iftype"
word_text word.CompileErrorWord = codes "compile_error"
word_text word.CompileIntrinsicWord = codes "compile_intrinsic"
word_text word.AddressofWord = codes "addressof"
word_text word.DigestofWord = codes "digestof"

-- the spelling of a sign
abbrev pub sign_text : Sign → List ℕ
sign_text sign.Arrow = codes "=>"
sign_text sign.Equal = codes "=="
sign_text sign.NotEqual = codes "!="
sign_text sign.LessEqual = codes "<="
sign_text sign.GreaterEqual = codes ">="
sign_text sign.OpenParen = codes "("
sign_text sign.CloseParen = codes ")"
sign_text sign.Comma = codes ","
sign_text sign.Dot = codes "."
sign_text sign.Colon = codes ":"
sign_text sign.Semicolon = codes ";"
sign_text sign.Assign = codes "="
sign_text sign.Caret = codes "^"
sign_text sign.Ampersand = codes "&"
sign_text sign.Plus = codes "+"
sign_text sign.Minus = codes "-"
sign_text sign.Star = codes "*"
sign_text sign.Slash = codes "/"
sign_text sign.Percent = codes "%"
sign_text sign.Less = codes "<"
sign_text sign.Greater = codes ">"

-- ---- tests on a token

unfoldable pub same_word : Word → Word → Bool
same_word = sameb word_type

unfoldable pub same_sign : Sign → Sign → Bool
same_sign = sameb sign_type

abbrev pub kind_is_word : Word → TokenKind → Bool
kind_is_word w (kind.Word x) = same_word x w
kind_is_word w _ = false

-- whether a token is this word
unfoldable pub is_word : Word → Token → Bool
is_word w t = kind_is_word w t.kind

abbrev pub kind_is_sign : Sign → TokenKind → Bool
kind_is_sign s (kind.Sign x) = same_sign x s
kind_is_sign s _ = false

-- whether a token is this sign
unfoldable pub is_sign : Sign → Token → Bool
is_sign s t = kind_is_sign s t.kind
