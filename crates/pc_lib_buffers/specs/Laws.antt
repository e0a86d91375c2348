-- What is proved of the bytes at which sources are refused.
use Rattle.std.specs.Prelude.{◌≡◌, Option, Some, None, Err}
use Rattle.pc_base.specs.{declared.span.Span.Span, Lists.Text}
use Rattle.pc_refusals.specs.{Source.AcceptedStage, Verdict.{whole, Verdict}}
use Rattle.pc_refusal_lines.specs.Lines.{no_main_line, offset_line}
use Rattle.pc_lib_buffers.specs.Refused.{IsRefusedAt}

-- A source is refused at exactly one span, or at none.
abbrev pub SpansAreOne : Type 0
SpansAreOne = (source : Text) (one other : Option Span) → IsRefusedAt source one → IsRefusedAt source other → one ≡ other

-- The line names the first byte of the span. Without a span, it says that there is no Main.
abbrev pub NamesSpan : (name source line : Text) → Option Span → Type 0
NamesSpan name source line None = line ≡ no_main_line name
NamesSpan name source line (Some span) = (what : Text) × (line ≡ offset_line name source span.start what)

-- The line of each refusal of a source names the first byte of the span at which it is refused.
abbrev pub LinesNameSpans : Type 0
LinesNameSpans =
    (name source : Text) (v : Verdict) → AcceptedStage name (whole source) (Err v)
    → (span : Option Span) × IsRefusedAt source span × NamesSpan name source v.err span
