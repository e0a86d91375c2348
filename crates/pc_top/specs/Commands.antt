-- What each command means: a row here, and a file with its definition.
pub mod Check
pub mod Events
pub mod Explain
pub mod Judge
pub mod Make
pub mod Outcomes
pub mod Places
pub mod Play
pub mod Run
pub mod Schedule
pub mod Sends
pub mod Show
pub mod Swap
pub mod Trace
pub mod Upgrade
use Rattle.std.specs.Prelude.{◌≡◌, Bool, Option, Some, None}
use Rattle.pc_base.specs.Lists.{Text}
use Rattle.pc_args.specs.Asked.{Asked, check, events, explain, judge, make, outcomes, places, play, run, schedule_of, sends, show, swap, trace, upgrade}
use Rattle.pc_io.specs.Sink.{Change}
use Rattle.pc_refusal_lines.specs.Lines.{usage_line}
use Rattle.pc_refusals.specs.Verdict.{Files, Verdict, refused}
use Rattle.pc_top.specs.{Commands.Check.check_meaning, Commands.Events.events_meaning, Commands.Explain.explain_meaning, Commands.Judge.judge_meaning, Commands.Make.make_meaning, Commands.Outcomes.outcomes_meaning, Commands.Places.places_meaning, Commands.Play.play_meaning, Commands.Run.run_meaning, Commands.Schedule.schedule_meaning, Commands.Sends.sends_meaning, Commands.Show.show_meaning, Commands.Swap.swap_meaning, Commands.Trace.trace_meaning, Commands.Upgrade.upgrade_meaning, Meaning.CommandMeaning}

abbrev pub meaning_of : Asked → CommandMeaning
meaning_of (check source) = check_meaning source
meaning_of (judge source derivation) = judge_meaning source derivation
meaning_of (run source schedule) = run_meaning source schedule
meaning_of (show source) = show_meaning source
meaning_of (make seed size) = make_meaning seed size
meaning_of (swap source schedule place) = swap_meaning source schedule place
meaning_of (trace source schedule) = trace_meaning source schedule
meaning_of (events source schedule) = events_meaning source schedule
meaning_of (places source) = places_meaning source
meaning_of (explain source) = explain_meaning source
meaning_of (sends source) = sends_meaning source
meaning_of (upgrade source derivation) = upgrade_meaning source derivation
meaning_of (schedule_of source seed) = schedule_meaning source seed
meaning_of (play source seed) = play_meaning source seed
meaning_of (outcomes source count) = outcomes_meaning source count

-- A command's verdict. Words that the command line does not take are refused with status 2.
abbrev pub IsVerdictOf : Files → Option Asked → Verdict → Type 0
IsVerdictOf files None v = v ≡ refused 2 usage_line
IsVerdictOf files (Some asked) v = (meaning_of asked).verdict files v

-- The file that the command could not read.
abbrev pub FailedOf : Files → Option Asked → Text → Type 0
FailedOf files None name = ⊥
FailedOf files (Some asked) name = (meaning_of asked).failed files name

-- The file among them whose core must have a derivation, if there is one.
abbrev pub source_of : Asked → Option Text
source_of asked = (meaning_of asked).source

-- Whether the command looks for this derivation itself.
abbrev pub infers : Asked → Bool
infers asked = (meaning_of asked).infers

-- What is on out after a command has passed all its stages, if the bytes of its files are known.
abbrev pub OnOutOf : (Text → Option Text) → Option Asked → Change → Type 0
OnOutOf known None out = ⊥
OnOutOf known (Some asked) out = (meaning_of asked).on_out known out
