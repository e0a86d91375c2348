-- The first fault of a text that has no token list, and what lexing may return.
use Rattle.std.specs.{Prelude.{◌≡◌, ℕ, ◌+◌, ◌<◌, ◌≤◌, Bool, true, false, ◌==◌, List, ◌∷◌, ◌++◌, length, take, drop, ◌⊎◌, [], codes}, Char.is_ascii_digit}
use Rattle.pc_token.specs.declared.kinds.TokenKind.{TokenKind}
use Rattle.pc_lex.specs.{declared.fault.LexFault.LexFault, Pieces.{token_limit, Piece, gap, token, bytes_of, IsPiece, Pieces, IsToken, begins, first_test, BetweenQuotes, Writes, Written, begins_doc}}
use Rattle.pc_lex.specs.declared.fault.LexFault.TheVariants as fault

-- `"`
abbrev pub is_quote : ℕ → Bool
is_quote b = b == 34

-- No byte of a value is spelled here.
abbrev pub NoByte : List ℕ → Type 0
NoByte text = (one rest : List ℕ) (v : ℕ) → text ≡ one ++ rest → Writes one v → ⊥

-- Between the quotes, the first bad escape is at this place: the bytes before it spell bytes of a value, and none is
-- spelled there.
abbrev pub BadAt : List ℕ → ℕ → Type 0
BadAt b at = (vs : List ℕ) × Written (take at b) vs × (at < length b) × NoByte (drop at b)

-- The text literal that begins the text ends, and its first bad escape is at this offset.
abbrev pub BadEscapeIn : List ℕ → ℕ → Type 0
BadEscapeIn text offset = (body rest : List ℕ) × (text ≡ 34 ∷ (body ++ 34 ∷ rest)) × BetweenQuotes body × (at : ℕ) × BadAt body at × (offset ≡ 1 + at)

-- No `"` ends the text literal that begins the text.
abbrev pub NeverEnds : List ℕ → Type 0
NeverEnds text = (body rest : List ℕ) → text ≡ 34 ∷ (body ++ 34 ∷ rest) → BetweenQuotes body → ⊥

-- how many of the pieces are tokens
abbrev pub count : List Piece → ℕ
count [] = 0
count (gap b ∷ ps) = count ps
count (token kind b ∷ ps) = 1 + count ps

-- The text begins with no piece.
abbrev pub NoPiece : List ℕ → Type 0
NoPiece text = (p : Piece) (rest : List ℕ) → text ≡ bytes_of p ++ rest → IsPiece p rest → ⊥

-- The text begins with `/*`, with `"""`, or with a text literal that no `"` ends.
abbrev pub OpensCommentOrText : List ℕ → Type 0
OpensCommentOrText text =
    (begins text (codes "/*") ≡ true)
    ⊎ ((begins_doc text ≡ true)
    ⊎ ((begins_doc text ≡ false) × (first_test is_quote text ≡ true) × NeverEnds text))

-- The fault of a text that begins with no piece, and its place: a comment, text or doc that does not end, digits that
-- are no number, a text with a bad escape, or another byte.
abbrev pub Faulty : List ℕ → ℕ → LexFault → Type 0
Faulty text at (fault.BadByte p) = (p ≡ at) × NoPiece text × (0 < length text) × (begins text (codes "/*") ≡ false) × (first_test is_ascii_digit text ≡ false) × (first_test is_quote text ≡ false)
Faulty text at (fault.Unclosed p) = (p ≡ at) × NoPiece text × OpensCommentOrText text
Faulty text at (fault.BadNumber p) = (p ≡ at) × NoPiece text × (first_test is_ascii_digit text ≡ true)
Faulty text at (fault.BadEscape p) = (offset : ℕ) × (p ≡ at + offset) × NoPiece text × (begins_doc text ≡ false) × BadEscapeIn text offset
Faulty text at (fault.TooMany p) = ⊥
Faulty text at fault.Memory = ⊥

-- Whole pieces, at most the limit of tokens among them, and then a fault.
abbrev pub FaultAfter : List ℕ → LexFault → Type 0
FaultAfter text f = (ps : List Piece) × (rest : List ℕ) × (at : ℕ) × Pieces text ps rest × (count ps ≤ token_limit) × (at + length rest ≡ length text) × Faulty rest at f

-- Whole pieces, exactly the limit of tokens among them, and then one more token.
abbrev pub TokenAfter : List ℕ → ℕ → Type 0
TokenAfter text p = (ps : List Piece) × (kind : TokenKind) × (b rest : List ℕ) × Pieces text ps (b ++ rest) × IsToken kind b rest × (count ps ≡ token_limit) × (p + length (b ++ rest) ≡ length text)

-- The first fault of a text. Running out of memory is not one.
abbrev pub FirstLexFault : List ℕ → LexFault → Type 0
FirstLexFault text (fault.TooMany p) = TokenAfter text p
FirstLexFault text f = FaultAfter text f
