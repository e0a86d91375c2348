-- Parts of the definitions of tokens, each with a name.
use Rattle.std.specs.{Prelude.{ℕ, ◌≡◌, ◌==◌, Bool, List, codes}, List.list_any}
use Rattle.pc_token.specs.{declared.words.Word.Word, Words.word_text}

abbrev pub hex_mark : List ℕ
hex_mark = codes "0x"

abbrev pub bin_mark : List ℕ
bin_mark = codes "0b"

abbrev pub line_mark : List ℕ
line_mark = codes "//"

abbrev pub open_mark : List ℕ
open_mark = codes "/*"

-- The bytes are no reserved word.
abbrev pub NoWord : List ℕ → Type 0
NoWord b = (word : Word) → b ≡ word_text word → ⊥

abbrev pub has_line_end : List ℕ → Bool
has_line_end b = list_any (λ c. c == 10) b
