-- The written forms of commands.
use Rattle.std.specs.Prelude.{◌≡◌, ◌==◌, Bool, true, false, not, List, [], ◌∷◌, Some, codes}
use Rattle.clap.specs.Words.{takes}
use Rattle.pc_base.specs.Lists.{Text}
use Rattle.pc_args.specs.{Asked.{Asked, check, command_of, events, explain, judge, make, outcomes, places, play, run, schedule_of, sends, show, swap, trace, upgrade}, Line.rcap}

-- A name or number that is not empty and does not begin with `-`.
abbrev pub is_plain : Text → Bool
is_plain [] = false
is_plain (first ∷ rest) = not (first == 45)

abbrev pub check_words : Text → List Text
check_words source = codes "check" ∷ source ∷ []

abbrev pub judge_words : Text → Text → List Text
judge_words source derivation = codes "judge" ∷ source ∷ derivation ∷ []

abbrev pub run_words : Text → Text → List Text
run_words source schedule = codes "run" ∷ source ∷ schedule ∷ []

abbrev pub show_words : Text → List Text
show_words source = codes "show" ∷ source ∷ []

abbrev pub make_words : Text → Text → List Text
make_words seed size = codes "make" ∷ seed ∷ size ∷ []

abbrev pub swap_words : Text → Text → Text → List Text
swap_words source schedule place = codes "swap" ∷ source ∷ schedule ∷ place ∷ []

abbrev pub trace_words : Text → Text → List Text
trace_words source schedule = codes "trace" ∷ source ∷ schedule ∷ []

abbrev pub events_words : Text → Text → List Text
events_words source schedule = codes "events" ∷ source ∷ schedule ∷ []

abbrev pub places_words : Text → List Text
places_words source = codes "places" ∷ source ∷ []

abbrev pub explain_words : Text → List Text
explain_words source = codes "explain" ∷ source ∷ []

abbrev pub sends_words : Text → List Text
sends_words source = codes "sends" ∷ source ∷ []

abbrev pub upgrade_words : Text → Text → List Text
upgrade_words source derivation = codes "upgrade" ∷ source ∷ derivation ∷ []

abbrev pub schedule_words : Text → Text → List Text
schedule_words source seed = codes "schedule" ∷ source ∷ seed ∷ []

abbrev pub play_words : Text → Text → List Text
play_words source seed = codes "play" ∷ source ∷ seed ∷ []

abbrev pub outcomes_words : Text → Text → List Text
outcomes_words source count = codes "outcomes" ∷ source ∷ count ∷ []

-- The command line takes the words, and this is what they ask for.
abbrev pub AskFor : List Text → Asked → Type 0
AskFor words asked = (takes rcap words ≡ true) × (command_of words ≡ Some asked)

-- Each form, with plain names and numbers, asks for its command.
pub record WrittenFormsAreTaken : Type 0 where
  pub checks : (source : Text) → is_plain source ≡ true → AskFor (check_words source) (check source)
  pub judges : (source derivation : Text) → is_plain source ≡ true → is_plain derivation ≡ true
      → AskFor (judge_words source derivation) (judge source derivation)
  pub runs : (source schedule : Text) → is_plain source ≡ true → is_plain schedule ≡ true
      → AskFor (run_words source schedule) (run source schedule)
  pub shows : (source : Text) → is_plain source ≡ true → AskFor (show_words source) (show source)
  pub makes : (seed size : Text) → is_plain seed ≡ true → is_plain size ≡ true → AskFor (make_words seed size) (make seed size)
  pub swaps : (source schedule place : Text) → is_plain source ≡ true → is_plain schedule ≡ true → is_plain place ≡ true
      → AskFor (swap_words source schedule place) (swap source schedule place)
  pub traces : (source schedule : Text) → is_plain source ≡ true → is_plain schedule ≡ true
      → AskFor (trace_words source schedule) (trace source schedule)
  pub tellings : (source schedule : Text) → is_plain source ≡ true → is_plain schedule ≡ true
      → AskFor (events_words source schedule) (events source schedule)
  pub placings : (source : Text) → is_plain source ≡ true → AskFor (places_words source) (places source)
  pub explanations : (source : Text) → is_plain source ≡ true → AskFor (explain_words source) (explain source)
  pub sendings : (source : Text) → is_plain source ≡ true → AskFor (sends_words source) (sends source)
  pub upgrades : (source derivation : Text) → is_plain source ≡ true → is_plain derivation ≡ true
      → AskFor (upgrade_words source derivation) (upgrade source derivation)
  pub schedules : (source seed : Text) → is_plain source ≡ true → is_plain seed ≡ true
      → AskFor (schedule_words source seed) (schedule_of source seed)
  pub plays : (source seed : Text) → is_plain source ≡ true → is_plain seed ≡ true → AskFor (play_words source seed) (play source seed)
  pub tables : (source count : Text) → is_plain source ≡ true → is_plain count ≡ true
      → AskFor (outcomes_words source count) (outcomes source count)
