-- `trace SRC SCHED`: the accesses of a run.
use Rattle.std.specs.Prelude.{ℕ, ◌≡◌, List, Result, Ok, Err}
use Rattle.pc_core.specs.CoreData.{CoreData}
use Rattle.pc_trace.specs.{Traces.{AllTouches, RanOn, TooLongAt, TooManyAt, VerdictIs}, declared.touch.Touch.Touch, declared.touch.Verdict.TheVariants.Ordered}
use Rattle.pc_base.specs.Lists.{Text}
use Rattle.pc_refusal_lines.specs.Lines.{many_actors_line, too_long_line}
use Rattle.pc_refusals.specs.Verdict.{Verdict, refused}
use Rattle.pc_run_events.specs.Lines.{trace_text}

-- These are all accesses of a run, in order and with their clocks; no step ended the run. Of any two events of
-- different actors that touch the same field, where one of them writes it, the earlier comes before the later.
abbrev pub Traced : CoreData → List ℕ → List Touch → Type 0
Traced core list touches = RanOn core list × AllTouches core list touches × VerdictIs core list Ordered

-- The text of a run: 12 if a step would make a text that is too long, and 8 if one would make too many actors.
pub data Tracing (name : Text) (core : CoreData) (list : List ℕ) : Result Text Verdict → Type 0 where
  tells : (touches : List Touch) (text : Text) → Traced core list touches → text ≡ trace_text touches → Tracing name core list (Ok text)
  too_long : (n : ℕ) → TooLongAt core list n → Tracing name core list (Err (refused 12 (too_long_line name n)))
  too_many : (n : ℕ) → TooManyAt core list n → Tracing name core list (Err (refused 8 (many_actors_line name n)))
