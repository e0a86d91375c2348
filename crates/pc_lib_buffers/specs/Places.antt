-- Where a line points.
use Rattle.std.specs.Prelude.{ℕ, ◌≡◌, ◌≤◌, ◌++◌, length, take, codes, decimal}
use Rattle.pc_base.specs.Lists.{Text}
use Rattle.pc_refusal_lines.specs.Lines.{line_number, column_number}
use Rattle.pc_lib_buffers.specs.{Ends.Ending, declared.place.Place.Place}

-- The start of a line that points at a byte: `NAME:LINE:COLUMN: `.
abbrev pub place_front : Text → (line column : ℕ) → Text
place_front name line column = name ++ (codes ":" ++ (decimal line ++ (codes ":" ++ (decimal column ++ codes ": "))))

-- The line begins with this text.
abbrev pub BeginsWith : Text → Text → Type 0
BeginsWith line front = (rest : Text) × (line ≡ front ++ rest)

-- The line points at the byte at this offset of the text with this name, or at the text's end.
abbrev pub PointsTo : (name text line : Text) → ℕ → Type 0
PointsTo name text line at = BeginsWith line (place_front name (line_number (take at text)) (column_number (take at text)))

-- It points at this piece of the text with this number: at its first byte, and the piece ends where some piece that
-- starts there ends.
pub record PointsAt (number : ℕ) (name text : Text) (Ends : Ending) (line : Text) (place : Place) : Type 0 where
  pub number_is : place.text ≡ number
  pub within : place.offset ≤ length text
  pub line_is : place.line ≡ line_number (take place.offset text)
  pub column_is : place.column ≡ column_number (take place.offset text)
  pub points : PointsTo name text line place.offset
  pub ends : Ends place.offset place.end_offset
  pub end_line_is : place.end_line ≡ line_number (take place.end_offset text)
  pub end_column_is : place.end_column ≡ column_number (take place.end_offset text)

-- It points neither at a byte of the text nor at its end.
abbrev pub PointsNowhere : (name text line : Text) → Type 0
PointsNowhere name text line = (at : ℕ) → at ≤ length text → PointsTo name text line at → ⊥

-- No place, all of whose numbers are 0.
abbrev pub no_place : Place
no_place = record { text = 0; line = 0; column = 0; offset = 0; end_line = 0; end_column = 0; end_offset = 0 }
