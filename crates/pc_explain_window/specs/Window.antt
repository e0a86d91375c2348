-- The line of a source in which a span starts, with the span marked below it.
use Rattle.std.specs.{Prelude.{ℕ, ◌+◌, ◌-◌, Bool, true, false, not, ◌==◌, nat_lt, List, [], ◌∷◌, ◌++◌, length, take, drop, map, flat_map, Option, Some, None, slice_get, if◌then◌else◌, codes, decimal}, List.prefix_len}
use Rattle.pc_base.specs.{declared.span.Span.Span, Lists.{Text, line_end}}
use Rattle.pc_refusal_lines.specs.Lines.{is_in_line, line_number, column_number}
use Rattle.pc_explain_window.specs.{Places.line_and_column, Shown.{shown, goes_on}}

-- If there are more than `far` bytes before a span in its line, the line is shown from `near` bytes before the span on.
-- At most `width` bytes of a line are shown.
abbrev pub far : ℕ
far = 100

abbrev pub near : ℕ
near = 60

abbrev pub width : ℕ
width = 160

-- ---- the line

-- How many bytes these bytes have in their last line, and where that line begins.
abbrev pub before_of : Text → ℕ
before_of front = column_number front - 1

abbrev pub line_start : Text → ℕ
line_start front = length front - before_of front

abbrev pub to_line_end : Text → Text
to_line_end rest = take (prefix_len is_in_line rest) rest

abbrev pub is_cr : Option ℕ → Bool
is_cr None = false
is_cr (Some b) = b == 13

abbrev pub without_cr : Text → Text
without_cr line = if is_cr (slice_get line (length line - 1)) then take (length line - 1) line else line

-- The line that begins at this byte, without its line end and a CR before that.
abbrev pub line_at : Text → ℕ → Text
line_at bytes start = without_cr (to_line_end (drop start bytes))

-- ---- the part that is shown

-- The byte from which a line is shown, if it has this many bytes before the span.
abbrev pub shown_from : ℕ → ℕ
shown_from before = if nat_lt far before then before - near else 0

abbrev pub part_of : Text → ℕ → Text
part_of line before = take width (drop (shown_from before) line)

-- What is written for a part left out at the start: two dots, and two blanks below them.
abbrev pub dots : Bool → Text
dots true = codes ".."
dots false = []

abbrev pub ellipsis : Bool → Text
ellipsis true = codes "  "
ellipsis false = []

abbrev pub shown_line : Text → ℕ → Text
shown_line line before = dots (nat_lt far before) ++ (map shown (part_of line before) ++ dots (nat_lt (shown_from before + width) (length line)))

-- ---- what is written below it

-- Below a byte before the span: a tab below a tab, and a blank below a character.
abbrev pub under : ℕ → Text
under b = if b == 9 then 9 ∷ [] else (if goes_on b then [] else 32 ∷ [])

abbrev pub caret : ℕ → Text
caret b = if goes_on b then [] else 94 ∷ []

abbrev pub one_at_least : Text → Text
one_at_least [] = 94 ∷ []
one_at_least (b ∷ bs) = b ∷ bs

-- A caret for each character of the span, and at least one.
abbrev pub carets : Text → Text
carets part = one_at_least (flat_map caret part)

-- The marks for a span of this many bytes.
abbrev pub marks : Text → (before size : ℕ) → Text
marks line before size =
    ellipsis (nat_lt far before)
    ++ (flat_map under (take (before - shown_from before) (part_of line before)) ++ carets (take size (drop (before - shown_from before) (part_of line before))))

-- Where a span ends that continues after its first line, which ends at this byte.
abbrev pub further : Text → (end_of_line end : ℕ) → Text
further bytes line_ends at = if nat_lt line_ends at then codes " .. " ++ line_and_column bytes at else []

-- ---- the two lines

-- A blank for each digit of a number.
abbrev pub blank_for : ℕ → ℕ
blank_for digit = 32

abbrev pub blanks : ℕ → Text
blanks number = map blank_for (decimal number)

abbrev pub bar : Text
bar = codes " | "

abbrev pub source_line : (number : ℕ) → Text → (before : ℕ) → Text
source_line number line before = decimal number ++ (bar ++ (shown_line line before ++ line_end))

-- What is written below the line of a span that begins after these bytes.
abbrev pub under_line : Text → Span → (front : Text) → Text → Text
under_line bytes span front line =
    blanks (line_number front)
    ++ (bar ++ (marks line (before_of front) (span.end - length front) ++ (further bytes (line_start front + length line) span.end ++ line_end)))

abbrev pub window_in : Text → Span → (front : Text) → Text → Text
window_in bytes span front line = source_line (line_number front) line (before_of front) ++ under_line bytes span front line

-- The line in which the span starts, and carets below the span.
unfoldable pub window : Text → Span → Text
window bytes span = window_in bytes span (take span.start bytes) (line_at bytes (line_start (take span.start bytes)))
