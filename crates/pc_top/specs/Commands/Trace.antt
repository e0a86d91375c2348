-- `trace SRC SCHED`.
use Rattle.std.specs.{Prelude.{◌⊎◌, true, List, [], ◌∷◌, Some, IfSome}, Io.KnownBytes.Appends}
use Rattle.pc_io.specs.Sink.{Change}
use Rattle.pc_core.specs.CoreData.{CoreData}
use Rattle.pc_run.specs.Spreading.{spread}
use Rattle.pc_sched.specs.{Schedules.TurnList, declared.turns.Turn.Turn}
use Rattle.pc_trace.specs.declared.touch.Touch.{Touch}
use Rattle.pc_base.specs.Lists.{Text}
use Rattle.pc_refusals.specs.Verdict.{Named, EndsWith, Verdict, named}
use Rattle.pc_top.specs.{CoreOf.CoreOf, Shapes.{OfScheduled, UnreadScheduled}, Meaning.CommandMeaning}
use Rattle.pc_run_events.specs.Lines.{trace_text}
use Rattle.pc_commands.specs.Trace.{Traced, Tracing}

-- The verdict of `trace` on this source and this schedule.
abbrev pub IsTrace : Named → Named → Verdict → Type 0
IsTrace = OfScheduled (λ name core list. EndsWith (Tracing name core list))

-- Out grew by the lines of all accesses of the run of the source's core by the schedule, in order and with their
-- clocks. Of any two events of different actors that touch the same field, where one of them writes it, the earlier
-- comes before the later.
abbrev pub WritesTrace : Change → Text → Text → Type 0
WritesTrace out source schedule =
    (core : CoreData) × CoreOf source core × (turns : List Turn) × TurnList schedule turns × (touches : List Touch) × Traced core (spread turns) touches
    × Appends out.before out.now (trace_text touches)

-- What `trace` means.
abbrev pub trace_meaning : Text → Text → CommandMeaning
trace_meaning source schedule = record {
  verdict = λ files. IsTrace (named files source) (named files schedule);
  failed = λ files. UnreadScheduled (named files source) (named files schedule);
  source = Some source;
  infers = true;
  on_out = λ known out. IfSome (known source) (λ bytes. IfSome (known schedule) (λ text. WritesTrace out bytes text ⊎ Appends out.before out.now []));
  files = source ∷ schedule ∷ [];
  has_number = Unit {0};
}
