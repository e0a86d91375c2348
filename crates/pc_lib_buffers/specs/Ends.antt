-- Where the piece of a text ends whose first byte a line points at.
use Rattle.std.specs.{Prelude.{ℕ, ◌≡◌, ◌+◌, ◌==◌, drop, Option, Some, None, if◌then◌else◌}, List.prefix_len}
use Rattle.pc_base.specs.{declared.span.Span.Span, Lists.Text}
use Rattle.pc_sched.specs.Schedules.{no_blank}
use Rattle.pc_lib_buffers.specs.Refused.{IsRefusedAt}

-- Where a piece starts, and where it ends.
abbrev pub Ending : Type 1
Ending = (start at : ℕ) → Type 0

-- ---- in a source

-- The end of a span that starts there. If there is none, the piece has no bytes.
abbrev pub end_from : ℕ → Option Span → ℕ
end_from start None = start
end_from start (Some span) = if span.start == start then span.end else start

-- The end of the span at which the source is refused.
abbrev pub SpansTo : Text → Ending
SpansTo source start at = (span : Option Span) × IsRefusedAt source span × (at ≡ end_from start span)

-- ---- in a schedule

-- The end of the word.
abbrev pub WordTo : Text → Ending
WordTo schedule start at = at ≡ start + prefix_len no_blank (drop start schedule)
