-- Laws of the tables of words and signs.
use Rattle.std.specs.{Prelude.{◌≡◌, ◌≤◌, ℕ, List, length, Some, None, true, nat_eq}, List.starts_with}
use Rattle.pc_token.specs.{declared.words.Word.Word, declared.signs.Sign.Sign, Words.{word_text, sign_text}, Finding.{word_of, sign_at}}

-- Each word is found by its spelling.
abbrev pub WordFound : Type 0
WordFound = (word : Word) → word_of (word_text word) ≡ Some word

-- A word is found only by its own spelling.
abbrev pub WordOnly : Type 0
WordOnly = (bytes : List ℕ) (word : Word) → word_of bytes ≡ Some word → bytes ≡ word_text word

abbrev pub BeginsWithSign : List ℕ → Sign → Type 0
BeginsWithSign text sign = starts_with nat_eq text (sign_text sign) ≡ true

-- If a sign is found, the text begins with it, the length is its own, and no longer sign begins the text.
abbrev pub SignFound : Type 0
SignFound = (text : List ℕ) (sign : Sign) (size : ℕ) → sign_at text ≡ Some (sign, size)
    → BeginsWithSign text sign × (size ≡ length (sign_text sign)) × ((other : Sign) → BeginsWithSign text other → length (sign_text other) ≤ size)

-- If none is found, the text begins with no sign.
abbrev pub SignNone : Type 0
SignNone = (text : List ℕ) (sign : Sign) → sign_at text ≡ None → BeginsWithSign text sign → ⊥

-- Two signs with the same spelling are the same.
abbrev pub SignOnly : Type 0
SignOnly = (one other : Sign) → sign_text one ≡ sign_text other → one ≡ other
