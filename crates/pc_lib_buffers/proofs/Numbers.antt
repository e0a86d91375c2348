-- A line that begins with a name and two numbers.
use Rattle.std.proofs.{Common.{◌≡◌, ℕ, true, ◌∷◌, ◌++◌, Option, Some, None, sym, ap, ◌∙◌, append_assoc}, lemmas.Option.same_Some}
use Rattle.std.specs.Prelude.{is_some, codes, decimal, take}
use Rattle.pc_deriv.specs.Reading.{after_bytes}
use Rattle.pc_deriv.proofs.NameReading.{after_sound, after_own}
use Rattle.pc_base.specs.Lists.{◌>>=◌, Text}
use Rattle.pc_base.proofs.Options.{none_some, bind_some, bind_is}
use Rattle.pc_refusal_lines.specs.Lines.{line_number, column_number}
use Rattle.pc_lib_buffers.specs.{Finding.{Finds, FindsIn}, Fronts.{after_word, after_numbers}, Places.{BeginsWith, place_front}, declared.start.Start.Start}
use Rattle.pc_lib_buffers.proofs.Options.{some_is}

-- ---- a word and a colon

pub word_sound : (word text rest : Text) → after_word word text ≡ Some rest → text ≡ word ++ (58 ∷ rest)
unfolding after_word
word_sound word text rest e =
    let h = bind_some (after_bytes word text) (after_bytes (codes ":")) rest e in
    after_sound word text h.0 h.1 ∙ ap (λ l. word ++ l) (after_sound (codes ":") h.0 rest h.2)

pub word_own : (word rest : Text) → after_word word (word ++ (58 ∷ rest)) ≡ Some rest
unfolding after_word
word_own word rest = bind_is (after_bytes word (word ++ (58 ∷ rest))) (after_bytes (codes ":")) (58 ∷ rest) (after_own word (58 ∷ rest)) ∙ after_own (codes ":") rest

-- ---- two numbers

-- what comes first if they do, and after a name
abbrev numbered : (line column : ℕ) → Text → Text
numbered line column rest = decimal line ++ (58 ∷ (decimal column ++ (58 ∷ (32 ∷ rest))))

numbers_sound : (line column : ℕ) (numbers rest : Text) → after_numbers line column numbers ≡ Some rest → numbers ≡ numbered line column rest
unfolding after_numbers
numbers_sound line column numbers rest e =
    let h = bind_some (after_word (decimal line) numbers) (λ r. after_word (decimal column) r >>= after_bytes (codes " ")) rest e in
    let k = bind_some (after_word (decimal column) h.0) (after_bytes (codes " ")) rest h.2 in
    word_sound (decimal line) numbers h.0 h.1
    ∙ ap (λ l. decimal line ++ (58 ∷ l)) (word_sound (decimal column) h.0 k.0 k.1 ∙ ap (λ l. decimal column ++ (58 ∷ l)) (after_sound (codes " ") k.0 rest k.2))

numbers_own : (line column : ℕ) (rest : Text) → after_numbers line column (numbered line column rest) ≡ Some rest
unfolding after_numbers
numbers_own line column rest =
    let more : Text = decimal column ++ (58 ∷ (32 ∷ rest)) in
    bind_is (after_word (decimal line) (numbered line column rest)) (λ r. after_word (decimal column) r >>= after_bytes (codes " ")) more (word_own (decimal line) more)
    ∙ (bind_is (after_word (decimal column) more) (after_bytes (codes " ")) (32 ∷ rest) (word_own (decimal column) (32 ∷ rest))
    ∙ after_own (codes " ") rest)

-- ---- a line

-- a front and what follows it, piece by piece
flat : (name : Text) (line column : ℕ) (rest : Text) → place_front name line column ++ rest ≡ name ++ (58 ∷ numbered line column rest)
flat name line column rest =
    append_assoc name (codes ":" ++ (decimal line ++ (codes ":" ++ (decimal column ++ codes ": ")))) rest
    ∙ ap (λ l. name ++ (58 ∷ l)) (append_assoc (decimal line) (codes ":" ++ (decimal column ++ codes ": ")) rest
    ∙ ap (λ l. decimal line ++ (58 ∷ l)) (append_assoc (decimal column) (codes ": ") rest))

-- the numbers after the name are those of the place at which the line points
named : (name line numbers : Text) (l c : ℕ) → after_word name line ≡ Some numbers → is_some (after_numbers l c numbers) ≡ true → BeginsWith line (place_front name l c)
named name line numbers l c e h =
    let r = some_is (after_numbers l c numbers) h in
    (r.0, word_sound name line numbers e ∙ (ap (λ n. name ++ (58 ∷ n)) (numbers_sound l c numbers r.0 r.1) ∙ sym (flat name l c r.0)))

-- what follows the name in a line that points at a place
rest_of : (name line : Text) (l c : ℕ) (begins : BeginsWith line (place_front name l c)) → after_word name line ≡ Some (numbered l c begins.0)
rest_of name line l c begins = ap (after_word name) (begins.1 ∙ flat name l c begins.0) ∙ word_own name (numbered l c begins.0)

numbered_of : (name line numbers : Text) (l c : ℕ) → after_word name line ≡ Some numbers → BeginsWith line (place_front name l c) → is_some (after_numbers l c numbers) ≡ true
numbered_of name line numbers l c e begins =
    let same : numbers ≡ numbered l c begins.0 = same_Some numbers (numbered l c begins.0) (sym e ∙ rest_of name line l c begins) in
    ap (λ n. is_some (after_numbers l c n)) same ∙ ap is_some (numbers_own l c begins.0)

-- ---- what is found

pub found_after : (number : ℕ) (name text line numbers : Text) (r : Option Start) → after_word name line ≡ Some numbers → FindsIn number text numbers r → Finds number name text line r
found_after number name text line numbers None e none =
    λ at within points. none at within (numbered_of name line numbers (line_number (take at text)) (column_number (take at text)) e points)
found_after number name text line numbers (Some start) e is =
    record {
      number_is = is.number_is;
      within = is.within;
      line_is = is.line_is;
      column_is = is.column_is;
      points = named name line numbers (line_number (take start.offset text)) (column_number (take start.offset text)) e is.are;
    }

pub found_without : (number : ℕ) (name text line : Text) → after_word name line ≡ None → Finds number name text line None
found_without number name text line e = λ at within points. none_some (sym e ∙ rest_of name line (line_number (take at text)) (column_number (take at text)) points)
