-- `run SRC SCHED`.
use Rattle.std.specs.{Prelude.{true, List, [], ◌∷◌, Some, IfSome}, Io.KnownBytes.Appends}
use Rattle.pc_io.specs.Sink.{Change}
use Rattle.pc_base.specs.Lists.{Text}
use Rattle.pc_core.specs.CoreData.{CoreData}
use Rattle.pc_run.specs.Spreading.{spread}
use Rattle.pc_sched.specs.{Schedules.TurnList, declared.turns.Turn.Turn}
use Rattle.pc_semantics.specs.Text.{run_text}
use Rattle.pc_refusals.specs.Verdict.{Named, Verdict, named}
use Rattle.pc_commands.specs.Run.{Ran}
use Rattle.pc_top.specs.{CoreOf.CoreOf, Shapes.{OfScheduled, UnreadScheduled}, Meaning.CommandMeaning}

-- The verdict of `run` on this source and this schedule.
abbrev pub IsRun : Named → Named → Verdict → Type 0
IsRun = OfScheduled Ran

-- Out grew by the text of the run of the source's core by the schedule.
abbrev pub WritesRun : Change → Text → Text → Type 0
WritesRun out source schedule =
    (core : CoreData) × CoreOf source core × (turns : List Turn) × TurnList schedule turns × Appends out.before out.now (run_text core (spread turns))

-- What `run` means.
abbrev pub run_meaning : Text → Text → CommandMeaning
run_meaning source schedule = record {
  verdict = λ files. IsRun (named files source) (named files schedule);
  failed = λ files. UnreadScheduled (named files source) (named files schedule);
  source = Some source;
  infers = true;
  on_out = λ known out. IfSome (known source) (λ bytes. IfSome (known schedule) (WritesRun out bytes));
  files = source ∷ schedule ∷ [];
  has_number = Unit {0};
}
