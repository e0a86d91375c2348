-- A table of outcomes as text.
use Rattle.std.specs.Prelude.{◌==◌, ℕ, Bool, true, false, List, [], ◌∷◌, ◌++◌, codes, decimal, flat_map}
use Rattle.pc_outcomes.specs.{declared.entry.Ending.Ending, declared.entry.Ending.TheVariants.{Done, Cut, TooLong}, declared.entry.Entry.Entry}

-- How a play ended, if it did not run to its end.
abbrev pub ending_words : Ending → List ℕ
ending_words Done = []
ending_words Cut = codes " (cut)"
ending_words TooLong = codes " (too long)"

-- `seed S: N of COUNT, M steps`
abbrev pub seed_numbers : (count seed number steps : ℕ) → List ℕ
seed_numbers count seed number steps =
    codes "seed " ++ (decimal seed ++ (codes ": " ++ (decimal number ++ (codes " of " ++ (decimal count ++ (codes ", " ++ (decimal steps ++ codes " steps")))))))

-- Two blanks before a byte that begins a line.
abbrev pub margin : Bool → List ℕ
margin true = 32 ∷ 32 ∷ []
margin false = []

-- Bytes with two blanks before each line that begins among them; the first byte may begin one.
abbrev pub indented_from : Bool → List ℕ → List ℕ
indented_from begins [] = []
indented_from begins (b ∷ bs) = margin begins ++ b ∷ indented_from (b == 10) bs

-- A text with two blanks before each of its lines.
abbrev pub indented : List ℕ → List ℕ
indented text = indented_from true text

-- The head of an entry, with its numbers and how the play ended, and its text.
abbrev pub entry_text : (count : ℕ) → Entry → List ℕ
entry_text count e = seed_numbers count e.seed e.number e.steps ++ ending_words e.ending ++ 10 ∷ [] ++ indented e.text

-- The text of a table: the texts of its entries, one after another.
abbrev pub outcomes_text : (count : ℕ) → List Entry → List ℕ
outcomes_text count entries = flat_map (entry_text count) entries
