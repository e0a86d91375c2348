-- The token list of a text, and what the tokens of a text are made of: bytes, text literals and docs.
--
-- A text is cut into pieces: blanks, comments, and at each place the longest token that begins there. The pieces
-- determine the tokens.
use Rattle.std.specs.{Prelude.{ℕ, Bool, false, not, ◌||◌, ◌==◌, nat_eq, List, [], ◌∷◌, ◌≡◌, ◌+◌, ◌*◌, true, ◌++◌, Option, Some, None, if◌then◌else◌, ◌⊎◌, codes, ◌<◌, ◌≤◌, ◌^◌, length, ⊤}, Char.{is_ascii_digit, is_ascii_lowercase, is_ascii_uppercase, is_digit, digit_value}, List.{starts_with, list_all, list_any}}
use Rattle.pc_token.specs.{declared.words.Word.Word, declared.kinds.Token.Token, declared.kinds.TokenKind.TokenKind, Words.{word_text, sign_text}}
use Rattle.pc_token.specs.declared.kinds.TokenKind.TheVariants as kinds

-- ---- classes of bytes, and how a text may begin

-- space, tab, CR, LF
abbrev pub is_blank : ℕ → Bool
is_blank b = b == 32 || b == 9 || b == 13 || b == 10

abbrev pub is_letter : ℕ → Bool
is_letter b = is_ascii_lowercase b || is_ascii_uppercase b

-- what may follow in a name: a letter, a digit or `_`
abbrev pub is_tail : ℕ → Bool
is_tail b = is_letter b || is_ascii_digit b || b == 95

-- `'`
abbrev pub is_prime : ℕ → Bool
is_prime b = b == 39

-- what may not come directly after a number
abbrev pub is_joined : ℕ → Bool
is_joined b = is_tail b || is_prime b

-- every byte except LF
abbrev pub is_line : ℕ → Bool
is_line b = not (b == 10)

-- whether a text begins with a byte of a class
abbrev pub first_test : (ℕ → Bool) → List ℕ → Bool
first_test p [] = false
first_test p (b ∷ bs) = p b

-- whether a text begins with these bytes
abbrev pub begins : List ℕ → List ℕ → Bool
begins text word = starts_with nat_eq text word

abbrev pub begins_comment : List ℕ → Bool
begins_comment text = begins text (codes "//") || begins text (codes "/*")

-- ---- text literals and docs

-- neither `"` nor `\`
abbrev pub is_plain : ℕ → Bool
is_plain b = not (b == 34 || b == 92)

-- The bytes between the quotes of a text literal: `\` escapes the next byte, whatever it is, and there is no other `"`.
pub data BetweenQuotes : List ℕ → Type 0 where
  nothing : BetweenQuotes []
  plain : {b : ℕ} {bs : List ℕ} → is_plain b ≡ true → BetweenQuotes bs → BetweenQuotes (b ∷ bs)
  covered : {b : ℕ} {bs : List ℕ} → BetweenQuotes bs → BetweenQuotes (92 ∷ b ∷ bs)

-- what a byte after `\` denotes: `n`, `r`, `t`, `\`, `"`, `0`
abbrev pub escape_of : ℕ → Option ℕ
escape_of e = if e == 110 then Some 10 else (if e == 114 then Some 13 else (if e == 116 then Some 9 else (if e == 92 then Some 92 else (if e == 34 then Some 34 else (if e == 48 then Some 0 else None)))))

-- How one byte of a text's value is spelled: as itself, as one byte after `\`, or as two hexadecimal digits after `\x`.
abbrev pub Writes : List ℕ → ℕ → Type 0
Writes b v =
    ((b ≡ v ∷ []) × (is_plain v ≡ true))
    ⊎ (((e : ℕ) × (b ≡ 92 ∷ e ∷ []) × (escape_of e ≡ Some v))
    ⊎ ((h l : ℕ) × (b ≡ 92 ∷ 120 ∷ h ∷ l ∷ []) × (is_digit h 16 ≡ true) × (is_digit l 16 ≡ true) × (v ≡ digit_value h * 16 + digit_value l)))

-- The bytes between the quotes, and the value they denote.
abbrev pub Written : List ℕ → List ℕ → Type 0
Written b [] = b ≡ []
Written b (v ∷ vs) = (one rest : List ℕ) × (b ≡ one ++ rest) × Writes one v × Written rest vs

-- The bytes of a text literal with this value.
abbrev pub TextBytes : List ℕ → List ℕ → Type 0
TextBytes b v = (body : List ℕ) × (b ≡ 34 ∷ (body ++ 34 ∷ [])) × Written body v

-- whether a text begins with `"""`
unfoldable pub begins_doc : List ℕ → Bool
begins_doc text = starts_with nat_eq text (34 ∷ 34 ∷ 34 ∷ [])

-- The first text begins inside a doc, and the second begins after its `"""`.
pub data DocEnds : List ℕ → List ℕ → Type 0 where
  ends : {rest : List ℕ} → DocEnds (34 ∷ 34 ∷ 34 ∷ rest) rest
  other : {b : ℕ} {text rest : List ℕ} → begins_doc (b ∷ text) ≡ false → DocEnds text rest → DocEnds (b ∷ text) rest

-- The bytes of a doc.
abbrev pub DocBytes : List ℕ → Type 0
DocBytes b = (t : List ℕ) × (b ≡ 34 ∷ 34 ∷ 34 ∷ t) × DocEnds t []

-- how many bytes a text may have
abbrev pub bytes_limit : ℕ
bytes_limit = 1048576

-- how many tokens a text may have, not counting its end
abbrev pub token_limit : ℕ
token_limit = 200000

-- ---- pieces and tokens

-- At most one `_`, a letter of this case, then letters, digits and `_`, and finally any number of `'`.
pub record NameText (is_head : ℕ → Bool) (text : List ℕ) : Type 0 where
  pub under : List ℕ
  pub head : ℕ
  pub tail : List ℕ
  pub primes : List ℕ
  pub parts : text ≡ under ++ head ∷ (tail ++ primes)
  pub optional : (under ≡ []) ⊎ (under ≡ 95 ∷ [])
  pub heads : is_head head ≡ true
  pub tails : list_all is_tail tail ≡ true
  pub ends : list_all is_prime primes ≡ true

-- Digits of a base, with at most one `_` between any two, and their values.
pub data Digits (base : ℕ) : List ℕ → List ℕ → Type 0 where
  one : {b : ℕ} → is_digit b base ≡ true → Digits base (b ∷ []) (digit_value b ∷ [])
  next : {b : ℕ} {bs ds : List ℕ} → is_digit b base ≡ true → Digits base bs ds → Digits base (b ∷ bs) (digit_value b ∷ ds)
  spaced : {b : ℕ} {bs ds : List ℕ} → is_digit b base ≡ true → Digits base bs ds → Digits base (b ∷ 95 ∷ bs) (digit_value b ∷ ds)

-- the number whose first digits give the first number, and whose next digits are these
abbrev pub value_of_digits : (base so_far : ℕ) → List ℕ → ℕ
value_of_digits base so_far [] = so_far
value_of_digits base so_far (d ∷ ds) = value_of_digits base (so_far * base + d) ds

abbrev pub DigitsOf : ℕ → List ℕ → ℕ → Type 0
DigitsOf base b n = (ds : List ℕ) × Digits base b ds × (n ≡ value_of_digits base 0 ds)

-- decimal digits, or `0x` and hexadecimal digits of either case, or `0b` and binary digits; the number is
-- their value
abbrev pub NumberText : List ℕ → ℕ → Type 0
NumberText b n = DigitsOf 10 b n ⊎ (((t : List ℕ) × (b ≡ codes "0x" ++ t) × DigitsOf 16 t n) ⊎ ((t : List ℕ) × (b ≡ codes "0b" ++ t) × DigitsOf 2 t n))

-- The bytes of a token. A name is no reserved word.
abbrev pub SpellsToken : TokenKind → List ℕ → Type 0
SpellsToken (kinds.Name text) b = NameText is_ascii_lowercase b × ((word : Word) → b ≡ word_text word → ⊥) × (text ≡ b)
SpellsToken (kinds.TypeName text) b = NameText is_ascii_uppercase b × (text ≡ b)
SpellsToken (kinds.Word word) b = b ≡ word_text word
SpellsToken (kinds.Number n) b = NumberText b n × (n < 2 ^ 64)
SpellsToken (kinds.Text v) b = TextBytes b v
SpellsToken kinds.Doc b = DocBytes b
SpellsToken (kinds.Sign sign) b = b ≡ sign_text sign
SpellsToken kinds.End b = ⊥

-- The first text begins inside a comment, and the second begins after the `*/` that ends it. Comments nest.
pub data ClosesComment : List ℕ → List ℕ → Type 0 where
  close : {rest : List ℕ} → ClosesComment (42 ∷ 47 ∷ rest) rest
  inner : {text mid rest : List ℕ} → ClosesComment text mid → ClosesComment mid rest → ClosesComment (47 ∷ 42 ∷ text) rest
  other : {b : ℕ} {text rest : List ℕ} → begins (b ∷ text) (codes "/*") ≡ false → begins (b ∷ text) (codes "*/") ≡ false → ClosesComment text rest → ClosesComment (b ∷ text) rest

-- the end of the text, or an LF
abbrev pub AtLineEnd : List ℕ → Type 0
AtLineEnd [] = ⊤
AtLineEnd (b ∷ bs) = b ≡ 10

-- one blank, a `//` comment up to the end of its line, or a `/*` comment up to its `*/`, before the rest
abbrev pub IsGap : List ℕ → List ℕ → Type 0
IsGap b rest =
    ((c : ℕ) × (b ≡ c ∷ []) × (is_blank c ≡ true))
    ⊎ (((t : List ℕ) × (b ≡ 47 ∷ 47 ∷ t) × (list_all is_line t ≡ true) × AtLineEnd rest)
    ⊎ ((t : List ℕ) × (b ++ rest ≡ 47 ∷ 42 ∷ t) × ClosesComment t rest))

-- A number is not directly followed by a letter, a digit, `_` or `'`.
abbrev pub EndsWell : TokenKind → List ℕ → Type 0
EndsWell (kinds.Number n) rest = first_test is_joined rest ≡ false
EndsWell _ rest = ⊤

-- A token before the rest: no longer prefix of the text from here on is a token. `//` and `/*` begin no token, and
-- `"""` begins only a doc.
pub record IsToken (kind : TokenKind) (b rest : List ℕ) : Type 0 where
  pub spelled : SpellsToken kind b
  pub longest : (other : TokenKind) (more after : List ℕ) → b ++ rest ≡ more ++ after → SpellsToken other more → length more ≤ length b
  pub no_comment : begins_comment (b ++ rest) ≡ false
  pub doc : begins_doc (b ++ rest) ≡ true → kind ≡ kinds.Doc
  pub ends : EndsWell kind rest

-- a blank or a comment, or a token of some kind, with its bytes
pub data Piece : Type 0 where
  gap : List ℕ → Piece
  token : TokenKind → List ℕ → Piece

abbrev pub bytes_of : Piece → List ℕ
bytes_of (gap b) = b
bytes_of (token kind b) = b

abbrev pub IsPiece : Piece → List ℕ → Type 0
IsPiece (gap b) rest = IsGap b rest
IsPiece (token kind b) rest = IsToken kind b rest

-- The text is cut into these pieces and the rest.
abbrev pub Pieces : List ℕ → List Piece → List ℕ → Type 0
Pieces text [] rest = text ≡ rest
Pieces text (p ∷ ps) rest = (mid : List ℕ) × (text ≡ bytes_of p ++ mid) × IsPiece p mid × Pieces mid ps rest

-- The tokens of the pieces, from an offset on; `first`: whether a token here would be first on its line.
abbrev pub tokens_of : ℕ → Bool → List Piece → List Token
tokens_of at first [] = record { kind = kinds.End; first = first; span = record { start = at; end = at } } ∷ []
tokens_of at first (gap b ∷ ps) = tokens_of (at + length b) (first || list_any (λ c. c == 10) b) ps
tokens_of at first (token kind b ∷ ps) = record { kind = kind; first = first; span = record { start = at; end = at + length b } } ∷ tokens_of (at + length b) false ps

-- The list is the tokens of the text, with `End` last. Their number is not limited.
abbrev pub Tokens : List ℕ → List Token → Type 0
Tokens text ts = (ps : List Piece) × Pieces text ps [] × (ts ≡ tokens_of 0 true ps)

-- The list is the tokens of the text with `End`, and there are not too many of them.
abbrev pub TokenList : List ℕ → List Token → Type 0
TokenList text ts = Tokens text ts × (length ts ≤ token_limit + 1)
