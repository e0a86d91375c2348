-- The verdicts on texts in memory. Each text is seen as a file with a name, whose bytes are known and whose reading does not fail.
use Rattle.std.specs.Prelude.{ℕ, ◌≤◌, codes, decimal}
use Rattle.pc_base.specs.Lists.{Text}
use Rattle.pc_refusals.specs.Verdict.{Named, text_as, Verdict}
use Rattle.pc_top.specs.{Commands.Check.IsCheck, Commands.Events.IsEvents, Commands.Explain.IsExplain, Commands.Judge.IsJudge, Commands.Outcomes.IsOutcomes, Commands.Places.IsPlaces, Commands.Play.IsPlay, Commands.Run.IsRun, Commands.Schedule.IsSchedule, Commands.Sends.IsSends, Commands.Show.IsShow, Commands.Swap.IsSwap, Commands.Trace.IsTrace, Commands.Upgrade.IsUpgrade}
use Rattle.pc_commands.specs.Outcomes.{seeds_limit}

abbrev pub source_file : Text → Named
source_file = text_as (codes "source")

abbrev pub derivation_file : Text → Named
derivation_file = text_as (codes "derivation")

abbrev pub schedule_file : Text → Named
schedule_file = text_as (codes "schedule")

-- ---- of a source

abbrev pub IsChecked : Text → Verdict → Type 0
IsChecked source = IsCheck (source_file source)

abbrev pub IsShown : Text → Verdict → Type 0
IsShown source = IsShow (source_file source)

abbrev pub IsPlacesOf : Text → Verdict → Type 0
IsPlacesOf source = IsPlaces (source_file source)

abbrev pub IsSendsOf : Text → Verdict → Type 0
IsSendsOf source = IsSends (source_file source)

abbrev pub IsExplained : Text → Verdict → Type 0
IsExplained source = IsExplain (source_file source)

-- ---- of a source and a derivation

abbrev pub IsJudged : (source derivation : Text) → Verdict → Type 0
IsJudged source derivation = IsJudge (source_file source) (derivation_file derivation)

abbrev pub IsUpgraded : (source derivation : Text) → Verdict → Type 0
IsUpgraded source derivation = IsUpgrade (source_file source) (derivation_file derivation)

-- ---- of a source and a schedule

abbrev pub IsRunOf : (source schedule : Text) → Verdict → Type 0
IsRunOf source schedule = IsRun (source_file source) (schedule_file schedule)

abbrev pub IsTraced : (source schedule : Text) → Verdict → Type 0
IsTraced source schedule = IsTrace (source_file source) (schedule_file schedule)

abbrev pub IsEventsOf : (source schedule : Text) → Verdict → Type 0
IsEventsOf source schedule = IsEvents (source_file source) (schedule_file schedule)

-- What may be a place of a schedule: any other number is refused with 2.
abbrev pub MayBePlace : ℕ → Type 0
MayBePlace place = (1 ≤ place) × (place ≤ 9999999)

-- The place is written as a word, in decimal.
abbrev pub IsSwapped : (source schedule : Text) → ℕ → Verdict → Type 0
IsSwapped source schedule place = IsSwap (source_file source) (schedule_file schedule) (decimal place)

-- ---- of a source and a number, which is written as a word, in decimal

abbrev pub IsScheduleOf : Text → (seed : ℕ) → Verdict → Type 0
IsScheduleOf source seed = IsSchedule (source_file source) (decimal seed)

abbrev pub IsPlayed : Text → (seed : ℕ) → Verdict → Type 0
IsPlayed source seed = IsPlay (source_file source) (decimal seed)

-- What may be a count of seeds: any other number is refused with 2.
abbrev pub MayBeCount : ℕ → Type 0
MayBeCount count = (1 ≤ count) × (count ≤ seeds_limit)

abbrev pub IsOutcomesOf : Text → (count : ℕ) → Verdict → Type 0
IsOutcomesOf source count = IsOutcomes (source_file source) (decimal count)
