-- What an explanation begins with.
use Rattle.std.specs.Prelude.{◌++◌}
use Rattle.pc_base.specs.{declared.span.Span.Span, Lists.Text}
use Rattle.pc_refusal_lines.specs.Lines.{offset_line}
use Rattle.pc_explain_window.specs.Window.{window}

-- The line by which the source with this name is refused, and the window of the span.
unfoldable pub head : Text → Text → Span → Text → Text
head name bytes span what = offset_line name bytes span.start what ++ window bytes span
