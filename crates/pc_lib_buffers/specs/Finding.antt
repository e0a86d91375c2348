-- Where in a text a line points. Only the contracts of the parts of `find_place` use it.
use Rattle.std.specs.Prelude.{ℕ, ◌≡◌, ◌≤◌, true, length, take, is_some, Option, Some, None}
use Rattle.pc_base.specs.Lists.{Text}
use Rattle.pc_refusal_lines.specs.Lines.{line_number, column_number}
use Rattle.pc_lib_buffers.specs.{Ends.Ending, Fronts.after_numbers, Places.{PointsNowhere, PointsTo}, declared.place.Place.Place, declared.start.Start.Start}

-- ---- a whole line

-- It points at this byte of the text with this number.
pub record StartsAt (number : ℕ) (name text line : Text) (start : Start) : Type 0 where
  pub number_is : start.text ≡ number
  pub within : start.offset ≤ length text
  pub line_is : start.line ≡ line_number (take start.offset text)
  pub column_is : start.column ≡ column_number (take start.offset text)
  pub points : PointsTo name text line start.offset

-- The result of looking for it in this text.
abbrev pub Finds : (number : ℕ) → (name text line : Text) → Option Start → Type 0
Finds number name text line None = PointsNowhere name text line
Finds number name text line (Some start) = StartsAt number name text line start

-- The piece of a text from here up to this byte.
abbrev pub place_to : Text → Start → ℕ → Place
place_to text start at = record {
  text = start.text;
  line = start.line;
  column = start.column;
  offset = start.offset;
  end_line = line_number (take at text);
  end_column = column_number (take at text);
  end_offset = at;
}

-- The piece starts here, and ends where some piece that starts here ends.
abbrev pub Stretches : Ending → Text → Start → Place → Type 0
Stretches Ends text start place = (at : ℕ) × Ends start.offset at × (place ≡ place_to text start at)

-- ---- two numbers, which are what remains of a line

-- They are the line and the column after this many bytes of the text.
abbrev pub AreOf : (text numbers : Text) → ℕ → Type 0
AreOf text numbers at = is_some (after_numbers (line_number (take at text)) (column_number (take at text)) numbers) ≡ true

pub record AreAt (number : ℕ) (text numbers : Text) (start : Start) : Type 0 where
  pub number_is : start.text ≡ number
  pub within : start.offset ≤ length text
  pub line_is : start.line ≡ line_number (take start.offset text)
  pub column_is : start.column ≡ column_number (take start.offset text)
  pub are : AreOf text numbers start.offset

abbrev pub FindsIn : (number : ℕ) → (text numbers : Text) → Option Start → Type 0
FindsIn number text numbers None = (at : ℕ) → at ≤ length text → AreOf text numbers at → ⊥
FindsIn number text numbers (Some start) = AreAt number text numbers start
