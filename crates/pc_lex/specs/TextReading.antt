-- How text literals and docs are read.
use Rattle.std.specs.{Prelude.{ℕ, zero, suc, ◌+◌, ◌*◌, ◌<◌, ◌&&◌, ◌==◌, List, [], ◌∷◌, length, drop, Option, Some, None, Result, Ok, Err, if◌then◌else◌, ⊤}, Char.{is_digit, digit_value}}
use Rattle.pc_lex.specs.{declared.texts.EscapeFault.EscapeFault, Pieces.{is_plain, escape_of, begins_doc}}
use Rattle.pc_lex.specs.declared.texts.EscapeFault.TheVariants as fault

-- the text after the next `"` that is not escaped by a `\`
unfoldable pub text_behind : List ℕ → Option (List ℕ)
text_behind [] = None
text_behind (b ∷ []) = if b == 34 then Some [] else None
text_behind (b ∷ c ∷ bs) = if b == 34 then Some (c ∷ bs) else (if b == 92 then text_behind bs else text_behind (c ∷ bs))

abbrev pub escape_at : ℕ → List ℕ → Option ℕ → Option (ℕ × ℕ)
escape_at e t (Some v) = Some (v, 2)
escape_at e [] None = None
escape_at e (h ∷ []) None = None
escape_at e (h ∷ l ∷ t) None = if e == 120 && (is_digit h 16 && is_digit l 16) then Some (digit_value h * 16 + digit_value l, 4) else None

abbrev pub escape_here : List ℕ → Option (ℕ × ℕ)
escape_here [] = None
escape_here (e ∷ t) = escape_at e t (escape_of e)

-- the length of a byte together with the byte it escapes, if any
abbrev pub width : ℕ → ℕ
width b = if b == 92 then 2 else 1

-- the byte of the value that is written here, and the length of its spelling
unfoldable pub byte_at : List ℕ → Option (ℕ × ℕ)
byte_at [] = None
byte_at (b ∷ t) = if is_plain b then Some (b, 1) else (if b == 92 then escape_here t else None)

abbrev pub with_first : ℕ × ℕ → Result (List ℕ) ℕ → Result (List ℕ) ℕ
with_first x (Ok vs) = Ok (x.0 ∷ vs)
with_first x (Err at) = Err (x.1 + at)

abbrev pub on_byte : Option (ℕ × ℕ) → (ℕ → Result (List ℕ) ℕ) → Result (List ℕ) ℕ
on_byte None more = Err 0
on_byte (Some x) more = with_first x (more x.1)

-- The value, or the place of the first bad escape. The number bounds the recursion.
abbrev pub unescape_in : ℕ → List ℕ → Result (List ℕ) ℕ
unescape_in zero b = Ok []
unescape_in (suc n) [] = Ok []
unescape_in (suc n) (b ∷ bs) = on_byte (byte_at (b ∷ bs)) (λ len. unescape_in n (drop len (b ∷ bs)))

unfoldable pub unescape : List ℕ → Result (List ℕ) ℕ
unescape b = unescape_in (length b) b

-- the text after the next `"""`
unfoldable pub doc_behind : List ℕ → Option (List ℕ)
doc_behind [] = None
doc_behind (b ∷ bs) = if begins_doc (b ∷ bs) then Some (drop 3 (b ∷ bs)) else doc_behind bs

-- the place of a bad escape is below n
abbrev pub EscapeWithin : ℕ → EscapeFault → Type 0
EscapeWithin n (fault.BadEscape at) = at < n
EscapeWithin n fault.Memory = ⊤
