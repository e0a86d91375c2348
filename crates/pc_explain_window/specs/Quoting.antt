-- Pieces of a source and names, as they appear in a line of words.
use Rattle.std.specs.Prelude.{ℕ, ◌-◌, Bool, true, false, ◌==◌, ◌||◌, nat_lt, List, [], ◌∷◌, ◌++◌, length, take, Option, Some, None, slice_get, if◌then◌else◌, codes}
use Rattle.pc_base.specs.Lists.{Text}
use Rattle.pc_explain_window.specs.Shown.{shown, goes_on}

-- How many bytes of a piece are written in full, and how many of a longer one are kept at most.
abbrev pub whole_bytes : ℕ
whole_bytes = 40

abbrev pub kept_bytes : ℕ
kept_bytes = 38

-- ---- in one line

abbrev pub is_white_space : ℕ → Bool
is_white_space b = b == 32 || b == 9 || b == 10 || b == 13

-- What a byte is written as, after a blank or after another byte: nothing for a blank after a blank.
abbrev pub in_line : (after_blank : Bool) → ℕ → Text
in_line after b = if is_white_space b then (if after then [] else 32 ∷ []) else shown b ∷ []

abbrev pub line_from : (after_blank : Bool) → Text → Text
line_from after [] = []
line_from after (b ∷ bs) = in_line after b ++ line_from (is_white_space b) bs

-- A piece with each run of blanks, tabs and line ends as one blank.
abbrev pub one_line : Text → Text
one_line piece = line_from false piece

-- ---- cut

-- A cut before the byte with this index splits a character.
abbrev pub splits_at : Option ℕ → Bool
splits_at None = false
splits_at (Some b) = goes_on b

abbrev pub splits : Text → ℕ → Bool
splits line at = splits_at (slice_get line at)

-- How many bytes of a longer line are kept: 38, or up to three fewer so that no character is split.
abbrev pub cut_of : Text → ℕ
cut_of line =
    if splits line kept_bytes then
    (if splits line (kept_bytes - 1) then (if splits line (kept_bytes - 2) then kept_bytes - 3 else kept_bytes - 2) else kept_bytes - 1)
    else kept_bytes

-- A line of more than 40 bytes, cut.
abbrev pub cut : Text → Text
cut line = if nat_lt whole_bytes (length line) then take (cut_of line) line ++ codes ".." else line

-- ---- as it appears in a line of words

unfoldable pub piece : Text → Text
piece bytes = cut (one_line bytes)

-- Between backquotes.
unfoldable pub quoted : Text → Text
quoted bytes = 96 ∷ (piece bytes ++ 96 ∷ [])
