-- Places in a text, and its pieces.
use Rattle.std.specs.Prelude.{ℕ, ◌∷◌, ◌++◌, take, drop, decimal}
use Rattle.pc_base.specs.{declared.span.Span.Span, Lists.Text}
use Rattle.pc_refusal_lines.specs.Lines.{line_number, column_number}

-- The line and the column of the byte at an offset, `L:C`.
unfoldable pub line_and_column : Text → ℕ → Text
line_and_column bytes at = decimal (line_number (take at bytes)) ++ 58 ∷ decimal (column_number (take at bytes))

-- The bytes of a span.
unfoldable pub piece_of : Text → Span → Text
piece_of bytes span = drop span.start (take span.end bytes)
