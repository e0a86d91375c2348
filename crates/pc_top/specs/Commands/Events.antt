-- `events SRC SCHED`.
use Rattle.std.specs.{Prelude.{◌⊎◌, true, List, [], ◌∷◌, Some, IfSome}, Io.KnownBytes.Appends}
use Rattle.pc_io.specs.Sink.{Change}
use Rattle.pc_core.specs.CoreData.{CoreData}
use Rattle.pc_run.specs.Spreading.{spread}
use Rattle.pc_run_events.specs.{Lines.events_text_of_run, declared.events.RunEvent.RunEvent}
use Rattle.pc_sched.specs.{Schedules.TurnList, declared.turns.Turn.Turn}
use Rattle.pc_base.specs.Lists.{Text}
use Rattle.pc_refusals.specs.Verdict.{Named, EndsWith, Verdict, named}
use Rattle.pc_commands.specs.Events.{AreEventsOfRun, EventsTelling}
use Rattle.pc_top.specs.{CoreOf.CoreOf, Shapes.{OfScheduled, UnreadScheduled}, Meaning.CommandMeaning}

-- The verdict of `events` on this source and this schedule.
abbrev pub IsEvents : Named → Named → Verdict → Type 0
IsEvents = OfScheduled (λ name core list. EndsWith (EventsTelling name core list))

-- Out grew by the lines of the events of the run of the source's core by the schedule.
abbrev pub WritesEvents : Change → Text → Text → Type 0
WritesEvents out source schedule =
    (core : CoreData) × CoreOf source core × (turns : List Turn) × TurnList schedule turns × (events : List RunEvent)
    × AreEventsOfRun core (spread turns) events
    × Appends out.before out.now (events_text_of_run core events)

-- What `events` means.
abbrev pub events_meaning : Text → Text → CommandMeaning
events_meaning source schedule = record {
  verdict = λ files. IsEvents (named files source) (named files schedule);
  failed = λ files. UnreadScheduled (named files source) (named files schedule);
  source = Some source;
  infers = true;
  on_out = λ known out. IfSome (known source) (λ bytes. IfSome (known schedule) (λ text. WritesEvents out bytes text ⊎ Appends out.before out.now []));
  files = source ∷ schedule ∷ [];
  has_number = Unit {0};
}
