-- How the first piece of a text is read.
use Rattle.std.specs.{Prelude.{ℕ, zero, suc, ◌+◌, ◌-◌, ◌*◌, ◌^◌, nat_lt, Bool, true, false, ◌&&◌, ◌||◌, ◌==◌, List, [], ◌∷◌, length, take, drop, slice_index, Option, Some, None, Result, Ok, Err, if◌then◌else◌, ◌≡◌, ◌<◌, ◌≤◌, ◌++◌, ⊤}, List.prefix_len, Char.{is_ascii_uppercase, is_ascii_digit, is_digit, digit_value}}
use Rattle.pc_token.specs.{declared.signs.Sign.Sign, declared.words.Word.Word, declared.kinds.Token.Token, declared.kinds.TokenKind.TokenKind, Finding.{word_of, sign_at}}
use Rattle.pc_lex.specs.{declared.fault.LexFault.LexFault, Pieces.{token_limit, begins_doc, is_blank, is_letter, is_tail, is_prime, is_line, begins, first_test, is_joined}, Parts.{has_line_end, line_mark, open_mark, hex_mark, bin_mark}, Faults.is_quote, TextReading.{text_behind, unescape, doc_behind}, declared.classes.Class.Class, declared.pieces.Found.Found, declared.pieces.LexStop.LexStop}
use Rattle.pc_lex.specs.declared.fault.LexFault.TheVariants as fault
use Rattle.pc_token.specs.declared.kinds.TokenKind.TheVariants as kinds
use Rattle.pc_lex.specs.declared.classes.Class.TheVariants as class
use Rattle.pc_lex.specs.declared.pieces.Found.TheVariants as found
use Rattle.pc_lex.specs.declared.pieces.LexStop.TheVariants as stop

abbrev pub class_test : Class → ℕ → Bool
class_test class.Tail = is_tail
class_test class.Prime = is_prime
class_test class.Line = is_line

unfoldable pub tail_len : List ℕ → ℕ
tail_len text = let n = prefix_len is_tail text in n + prefix_len is_prime (drop n text)

unfoldable pub letter_len : List ℕ → ℕ
letter_len [] = 0
letter_len (b ∷ bs) = if is_letter b then 1 + tail_len bs else 0

abbrev pub under_len : ℕ → ℕ
under_len zero = 0
under_len (suc n) = suc n + 1

-- the length of the name that begins the text, or 0
unfoldable pub name_len : List ℕ → ℕ
name_len [] = 0
name_len (b ∷ bs) = if b == 95 then under_len (letter_len bs) else letter_len (b ∷ bs)

-- whether a name is a type name
unfoldable pub is_type : List ℕ → Bool
is_type [] = false
is_type (b ∷ []) = is_ascii_uppercase b
is_type (b ∷ c ∷ bs) = if b == 95 then is_ascii_uppercase c else is_ascii_uppercase b

abbrev pub word_kind : List ℕ → Option Word → TokenKind
word_kind b None = kinds.Name b
word_kind b (Some w) = kinds.Word w

unfoldable pub name_kind : List ℕ → TokenKind
name_kind b = if is_type b then kinds.TypeName b else word_kind b (word_of b)

-- the text after the ends of this number of nested comments
unfoldable pub behind : ℕ → List ℕ → Option (List ℕ)
behind zero text = Some text
behind (suc n) [] = None
behind (suc n) (b ∷ []) = None
behind (suc n) (b ∷ c ∷ bs) = if b == 47 && c == 42 then behind (suc (suc n)) bs else (if b == 42 && c == 47 then behind n bs else behind (suc n) (c ∷ bs))

abbrev pub block_at : List ℕ → Option (List ℕ) → Result (Found × ℕ) LexStop
block_at text None = Err stop.Unclosed
block_at text (Some rest) = Ok (found.Gap, length text - length rest)

abbrev pub sign_or : Option (Sign × ℕ) → Result (Found × ℕ) LexStop
sign_or None = Err stop.BadByte
sign_or (Some s) = Ok (found.Token (kinds.Sign s.0), s.1)

-- how many bytes of digits follow a digit
unfoldable pub more_len : ℕ → List ℕ → ℕ
more_len base [] = 0
more_len base (b ∷ []) = if is_digit b base then 1 else 0
more_len base (b ∷ c ∷ bs) = if is_digit b base then 1 + more_len base (c ∷ bs) else (if b == 95 && is_digit c base then 2 + more_len base bs else 0)

unfoldable pub digits_len : ℕ → List ℕ → ℕ
digits_len base [] = 0
digits_len base (b ∷ bs) = if is_digit b base then 1 + more_len base bs else 0

-- the number denoted by bytes that are digits and `_`
abbrev pub value_of : (base so_far : ℕ) → List ℕ → ℕ
value_of base acc [] = acc
value_of base acc (b ∷ bs) = if b == 95 then value_of base acc bs else value_of base (acc * base + digit_value b) bs

-- the base of a number, and the length of its prefix
unfoldable pub base_at : List ℕ → ℕ × ℕ
base_at text = if begins text hex_mark && first_test (λ b. is_digit b 16) (drop 2 text) then (16, 2) else (if begins text bin_mark && first_test (λ b. is_digit b 2) (drop 2 text) then (2, 2) else (10, 0))

abbrev pub number_or : (value length : ℕ) → Result (Found × ℕ) LexStop
number_or v n = if nat_lt v (2 ^ 64) then Ok (found.Token (kinds.Number v), n) else Err stop.BadNumber

abbrev pub number_of : List ℕ → (base skip digits : ℕ) → Result (Found × ℕ) LexStop
number_of text base skip n = if first_test is_joined (drop (skip + n) text) then Err stop.BadNumber else number_or (value_of base 0 (take n (drop skip text))) (skip + n)

unfoldable pub number_at : List ℕ → Result (Found × ℕ) LexStop
number_at text = let base = base_at text in number_of text base.0 base.1 (digits_len base.0 (drop base.1 text))

abbrev pub name_or_sign : List ℕ → ℕ → Result (Found × ℕ) LexStop
name_or_sign text zero = sign_or (sign_at text)
name_or_sign text (suc n) = Ok (found.Token (name_kind (take (suc n) text)), suc n)

abbrev pub doc_or : List ℕ → Option (List ℕ) → Result (Found × ℕ) LexStop
doc_or text None = Err stop.Unclosed
doc_or text (Some rest) = Ok (found.Token kinds.Doc, length text - length rest)

abbrev pub value_or : ℕ → Result (List ℕ) ℕ → Result (Found × ℕ) LexStop
value_or n (Ok value) = Ok (found.Token (kinds.Text value), n)
value_or n (Err at) = Err (stop.BadEscape (1 + at))

-- the bytes between the two quotes of a literal of this length
abbrev pub between : List ℕ → ℕ → List ℕ
between text n = take (n - 2) (drop 1 text)

abbrev pub text_or : List ℕ → Option (List ℕ) → Result (Found × ℕ) LexStop
text_or text None = Err stop.Unclosed
text_or text (Some rest) = value_or (length text - length rest) (unescape (between text (length text - length rest)))

unfoldable pub text_at : List ℕ → Result (Found × ℕ) LexStop
text_at text = text_or text (text_behind (drop 1 text))

unfoldable pub doc_at : List ℕ → Result (Found × ℕ) LexStop
doc_at text = doc_or text (doc_behind (drop 3 text))

-- the piece with which the text begins, and its length
unfoldable pub piece_at : List ℕ → Result (Found × ℕ) LexStop
piece_at [] = Err stop.BadByte
piece_at (b ∷ bs) =
    if is_blank b then Ok (found.Gap, 1)
    else (if begins (b ∷ bs) line_mark then Ok (found.Gap, 2 + prefix_len is_line (drop 2 (b ∷ bs)))
    else (if begins (b ∷ bs) open_mark then block_at (b ∷ bs) (behind 1 (drop 2 (b ∷ bs)))
    else (if is_ascii_digit b then number_at (b ∷ bs)
    else (if begins_doc (b ∷ bs) then doc_at (b ∷ bs)
    else (if is_quote b then text_at (b ∷ bs)
    else name_or_sign (b ∷ bs) (name_len (b ∷ bs)))))))

-- the offset of a bad escape is below n
abbrev pub StopWithin : ℕ → LexStop → Type 0
StopWithin n (stop.BadEscape offset) = offset < n
StopWithin n _ = ⊤

abbrev pub Fails : {Y : Type 0} → LexStop → Result Y LexStop → Type 0
Fails stop.Memory read = Unit {0}
Fails e read = read ≡ Err e

-- The function returned what the definition reads, or memory ran out.
abbrev pub GivesRead : {Y : Type 0} → Result Y LexStop → Result Y LexStop → Type 0
GivesRead (Ok x) read = read ≡ Ok x
GivesRead (Err e) read = Fails e read

-- After one more piece: where it ends, whether a token there would be first on its line, and the tokens.
abbrev pub step_of : List ℕ → ℕ → Bool → List Token → Found × ℕ → (ℕ × Bool) × List Token
step_of text at first ts (found.Gap, n) = ((at + n, first || has_line_end (take n (drop at text))), ts)
step_of text at first ts (found.Token kind, n) = ((at + n, false), ts ++ record { kind = kind; first = first; span = record { start = at; end = at + n } } ∷ [])

abbrev pub is_gap : Found → Bool
is_gap found.Gap = true
is_gap (found.Token kind) = false

-- the step was made
abbrev pub Steps : List ℕ → ℕ → Bool → List Token → List Token → ℕ × Bool → Type 0
Steps text at first old new r = (x : Found × ℕ) × (piece_at (drop at text) ≡ Ok x) × ((r, new) ≡ step_of text at first old x) × (is_gap x.0 ≡ false → length old < token_limit)

-- The blanks from one place up to another are skipped, and whether a token there would be first on its line.
pub data Passes (text : List ℕ) (start : ℕ) (begins_line : Bool) : ℕ → Bool → Type 0 where
  stays : Passes text start begins_line start begins_line
  blank : {at : ℕ} {first : Bool} → Passes text start begins_line at first → at < length text → is_blank (slice_index text at) ≡ true → Passes text start begins_line (at + 1) (first || slice_index text at == 10)

-- the step has this fault
abbrev pub Stuck : List ℕ → ℕ → List Token → LexFault → Type 0
Stuck text at old (fault.BadByte p) = (p ≡ at) × (piece_at (drop at text) ≡ Err stop.BadByte)
Stuck text at old (fault.BadNumber p) = (p ≡ at) × (piece_at (drop at text) ≡ Err stop.BadNumber)
Stuck text at old (fault.Unclosed p) = (p ≡ at) × (piece_at (drop at text) ≡ Err stop.Unclosed)
Stuck text at old (fault.BadEscape p) = (offset : ℕ) × (p ≡ at + offset) × (piece_at (drop at text) ≡ Err (stop.BadEscape offset))
Stuck text at old (fault.TooMany p) = (p ≡ at) × (token_limit ≤ length old) × (x : Found × ℕ) × (piece_at (drop at text) ≡ Ok x) × (is_gap x.0 ≡ false)
Stuck text at old fault.Memory = ⊤

abbrev pub fault_at : LexStop → ℕ → LexFault
fault_at stop.BadByte at = fault.BadByte at
fault_at stop.BadNumber at = fault.BadNumber at
fault_at stop.Unclosed at = fault.Unclosed at
fault_at (stop.BadEscape offset) at = fault.BadEscape (at + offset)
fault_at stop.Memory at = fault.Memory

-- a number, if it is below 2 ^ 64
abbrev pub BelowOrNone64 : Option ℕ → ℕ → Type 0
BelowOrNone64 None v = 2 ^ 64 ≤ v
BelowOrNone64 (Some x) v = (x ≡ v) × (v < 2 ^ 64)
