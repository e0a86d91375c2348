-- `events SRC SCHED`: the events of a run.
use Rattle.std.specs.Prelude.{ℕ, ◌≡◌, List, Result, Ok, Err}
use Rattle.pc_core.specs.CoreData.{CoreData}
use Rattle.pc_run_events.specs.{Events.{AllEvents, touches_in}, Lines.{events_text_of_run, AllNamed}, declared.events.RunEvent.RunEvent}
use Rattle.pc_trace.specs.{Traces.{AllTouches, RanOn, TooLongAt, TooManyAt, VerdictIs}, declared.touch.Verdict.TheVariants.Ordered}
use Rattle.pc_base.specs.Lists.{Text}
use Rattle.pc_refusal_lines.specs.Lines.{many_actors_line, too_long_line}
use Rattle.pc_refusals.specs.Verdict.{Verdict, refused}

-- These are all events of a run that are more than plain steps, in order and with their clocks; no step ended the run.
-- The accesses among them are those of a trace, and of any two that conflict, the earlier one comes before the later
-- one. What they name exists.
abbrev pub AreEventsOfRun : CoreData → List ℕ → List RunEvent → Type 0
AreEventsOfRun core list events = RanOn core list × AllEvents core list events × AllTouches core list (touches_in events) × VerdictIs core list Ordered × AllNamed core events

-- The text of a run: 12 if a step would make a text that is too long, and 8 if one would make too many actors.
pub data EventsTelling (name : Text) (core : CoreData) (list : List ℕ) : Result Text Verdict → Type 0 where
  tells : (events : List RunEvent) (text : Text) → AreEventsOfRun core list events → text ≡ events_text_of_run core events
      → EventsTelling name core list (Ok text)
  too_long : (n : ℕ) → TooLongAt core list n → EventsTelling name core list (Err (refused 12 (too_long_line name n)))
  too_many : (n : ℕ) → TooManyAt core list n → EventsTelling name core list (Err (refused 8 (many_actors_line name n)))
