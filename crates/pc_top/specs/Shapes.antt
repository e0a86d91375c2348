-- What verdicts have in common: which files a command goes through before its own last part.
use Rattle.std.specs.Prelude.{ℕ, ◌≡◌, List}
use Rattle.pc_ann.specs.declared.annotation.Ann.{Ann}
use Rattle.pc_deriv.specs.Text.{derivation_limit}
use Rattle.pc_base.specs.Lists.{Text}
use Rattle.pc_core.specs.CoreData.{CoreData}
use Rattle.pc_run.specs.Spreading.{spread}
use Rattle.pc_sched.specs.Schedules.{schedule_limit}
use Rattle.pc_refusals.specs.{Source.{AcceptedStage, FailedInTurn, FromFile, ScheduleStage, SourceStage, source_limit}, Derivation.{DerivationStage, Judging}, Verdict.{FailedAt, Named, EndsAs, Verdict, refused}, declared.source.Source.Source, declared.typing.Accepted.Accepted}
use Rattle.pc_refusal_lines.specs.Lines.{usage_line}

-- A source passes every stage of one that is accepted, and then comes the last part.
abbrev pub OfAccepted : (Accepted → Verdict → Type 0) → Named → Verdict → Type 0
OfAccepted Last source = FromFile source source_limit (AcceptedStage source.name) Last

-- What a last part states about a schedule's name, a core, and the turns of the schedule as one list.
abbrev pub LastOfTurns : Type 1
LastOfTurns = Text → CoreData → List ℕ → Verdict → Type 0

-- A schedule passes its stages, and then the last part takes its turns and an accepted source.
abbrev pub OfTurns : LastOfTurns → Named → Accepted → Verdict → Type 0
OfTurns Last schedule accepted = FromFile schedule schedule_limit (ScheduleStage schedule.name) (λ turns. Last schedule.name accepted.source.core (spread turns))

-- A source is accepted, and then a schedule is read. If the source is refused, the verdict is the same for any schedule.
abbrev pub OfScheduled : LastOfTurns → Named → Named → Verdict → Type 0
OfScheduled Last source schedule = OfAccepted (OfTurns Last schedule) source

-- The file that could not be read: the source, or the schedule of a source that is accepted.
abbrev pub UnreadScheduled : Named → Named → Text → Type 0
UnreadScheduled source schedule name = FailedInTurn source source_limit (AcceptedStage source.name) schedule name

-- A derivation passes its stages, and is judged for a source: if it is valid, the command is done with this text for
-- it.
abbrev pub OfJudged : (Ann → Text) → Named → Named → Source → Verdict → Type 0
OfJudged text source derivation s =
    FromFile derivation derivation_limit (DerivationStage derivation.name) (λ ann. EndsAs (λ _. text ann) (Judging source.name derivation.name s ann))

-- A source passes its stages, and then a derivation of it is judged. If the source is refused, the verdict is the same
-- for any derivation.
abbrev pub OfDerivation : (Ann → Text) → Named → Named → Verdict → Type 0
OfDerivation text source derivation = FromFile source source_limit (SourceStage source.name) (OfJudged text source derivation)

-- The file that could not be read: the source, or the derivation for a source that has a core.
abbrev pub UnreadDerivation : Named → Named → Text → Type 0
UnreadDerivation source derivation name = FailedInTurn source source_limit (SourceStage source.name) derivation name

-- A number among the words: the verdict is the one for the number that its word denotes, or 2 if it denotes none,
-- whatever the files are.
pub data ByNumber (Is : ℕ → Type 0) (Of : ℕ → Verdict → Type 0) (v : Verdict) : Type 0 where
  spelled : (n : ℕ) → Is n → Of n v → ByNumber Is Of v
  no_number : ((n : ℕ) → Is n → ⊥) → v ≡ refused 2 usage_line → ByNumber Is Of v

-- The source that could not be read. That is a cause only if the word denotes a number.
abbrev pub UnreadNumbered : (ℕ → Type 0) → Named → Text → Type 0
UnreadNumbered Is source name = ((n : ℕ) × Is n) × FailedAt source name
