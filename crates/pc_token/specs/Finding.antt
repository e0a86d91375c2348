-- The word and the sign that a text spells.
use Rattle.std.specs.{Prelude.{ℕ, List, [], ◌∷◌, length, Option, Some, None, if◌then◌else◌, nat_eq}, Str.bytes_eq, List.starts_with}
use Rattle.pc_token.specs.{declared.words.Word.Word, declared.words.TheConstants.WORDS, declared.signs.Sign.Sign, declared.signs.TheConstants.SIGNS, Words.{word_text, sign_text}}

-- the first of these words with this spelling
abbrev pub first_word : List Word → List ℕ → Option Word
first_word [] text = None
first_word (w ∷ ws) text = if bytes_eq (word_text w) text then Some w else first_word ws text

-- the word with this spelling
unfoldable pub word_of : List ℕ → Option Word
word_of = first_word WORDS

-- the first of these signs with which the text begins, and its length
abbrev pub first_sign : List Sign → List ℕ → Option (Sign × ℕ)
first_sign [] text = None
first_sign (s ∷ ss) text = if starts_with nat_eq text (sign_text s) then Some (s, length (sign_text s)) else first_sign ss text

-- the longest sign with which the text begins, and its length
unfoldable pub sign_at : List ℕ → Option (Sign × ℕ)
sign_at = first_sign SIGNS
