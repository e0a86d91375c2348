-- The lines on err, the first line of `make`, and places in a text.
use Rattle.std.specs.{Prelude.{ℕ, ◌++◌, codes, decimal, ◌+◌, ◌==◌, Bool, not, List, reverse, count_by, take}, List.prefix_len}
use Rattle.pc_base.specs.Lists.{Text, line_end}

abbrev pub usage_line : Text
usage_line = codes "usage: rcap COMMAND ARGUMENT ..." ++ line_end

abbrev pub unread_line : Text → Text
unread_line name = name ++ (codes ": cannot be read" ++ line_end)

abbrev pub longer_line : Text → ℕ → Text
longer_line name limit = name ++ (codes ": longer than " ++ (decimal limit ++ (codes " bytes" ++ line_end)))

abbrev pub no_main_line : Text → Text
no_main_line name = name ++ (codes ": no Main" ++ line_end)

-- A place in a file, by its line and column, and what is wrong there.
abbrev pub place_line : Text → (line column : ℕ) → Text → Text
place_line name line column what = name ++ (codes ":" ++ (decimal line ++ (codes ":" ++ (decimal column ++ (codes ": " ++ (what ++ line_end))))))

-- The step of a run that would make a text that is too long.
abbrev pub too_long_line : Text → ℕ → Text
too_long_line name n = name ++ (codes ": text too long at step " ++ (decimal n ++ line_end))

-- The step of a run that would make more actors than a clock may have numbers for.
abbrev pub many_actors_line : Text → ℕ → Text
many_actors_line name n = name ++ (codes ": too many actors at step " ++ (decimal n ++ line_end))

-- The place of a schedule after which there is no turn.
abbrev pub no_place_line : Text → ℕ → Text
no_place_line name n = name ++ (codes ": no place " ++ (decimal n ++ line_end))

-- A generated program: its seed, its size and how many nodes its core has.
abbrev pub counts_line : (seed size nodes : ℕ) → Text
counts_line seed size nodes = codes "seed " ++ (decimal seed ++ (codes " size " ++ (decimal size ++ (codes " nodes " ++ (decimal nodes ++ line_end)))))

-- What is wrong with a derivation: a line that does not have its form, too many lines, counts that differ from the
-- source's, a slot, a node, or a constructor that leaves a field unset.
abbrev pub bad_line : Text → ℕ → Text
bad_line name n = name ++ (codes ":" ++ (decimal n ++ (codes ": bad line" ++ line_end)))

abbrev pub many_line : Text → Text
many_line name = name ++ (codes ": too many lines" ++ line_end)

abbrev pub shape_line : Text → Text
shape_line name = name ++ (codes ": shape" ++ line_end)

abbrev pub slot_refusal_line : Text → ℕ → Text
slot_refusal_line name n = name ++ (codes ": slot " ++ (decimal n ++ line_end))

abbrev pub node_refusal_line : Text → ℕ → Text
node_refusal_line name n = name ++ (codes ": node " ++ (decimal n ++ line_end))

abbrev pub unset_line : Text → ℕ → Text
unset_line name n = name ++ (codes ": unset in method " ++ (decimal n ++ line_end))

-- ---- the position of a byte in a text

-- LF
abbrev pub is_line_end : ℕ → Bool
is_line_end b = b == 10

abbrev pub is_in_line : ℕ → Bool
is_in_line b = not (is_line_end b)

-- The line after these bytes: one more than the number of line ends among them.
abbrev pub line_number : List ℕ → ℕ
line_number front = 1 + count_by is_line_end front

-- The column after these bytes: one more than the number of bytes since the last line end.
abbrev pub column_number : List ℕ → ℕ
column_number front = 1 + prefix_len is_in_line (reverse front)

-- The line that names the byte at an offset, and what is wrong there.
abbrev pub offset_line : Text → Text → ℕ → Text → Text
offset_line name bytes at what = place_line name (line_number (take at bytes)) (column_number (take at bytes)) what
