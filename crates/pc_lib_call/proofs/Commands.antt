-- What each call asks for.
use Rattle.std.proofs.Common.{◌≡◌, ◌<◌, ℕ, List, [], Option, Some, refl, subst, true}
use Rattle.std.specs.{Prelude.{◌^◌, codes, decimal, unwrap_or}, Borrow.Bor}
use Rattle.pc_args.specs.{Asked.{Asked, check, command_of, events, explain, judge, outcomes, places, play, run, schedule_of, sends, show, swap, trace, upgrade}, Forms.{WrittenFormsAreTaken, check_words, events_words, explain_words, is_plain, judge_words, outcomes_words, places_words, play_words, run_words, schedule_words, sends_words, show_words, swap_words, trace_words, upgrade_words}, Line.IsSeed}
use Rattle.pc_deriv.specs.Text.{deriv_text}
use Rattle.pc_deriv.specs.declared.version.Version.TheVariants as version
use Rattle.pc_io.specs.{Entries.held, declared.entries.Entry.Entry}
use Rattle.pc_base.specs.Lists.{Text}
use Rattle.pc_refusals.specs.{Source.{AcceptedStage, FileStage, SourceStage}, Verdict.{Files, Named, named, EndsWith, Verdict}}
use Rattle.pc_top.specs.{Commands.IsVerdictOf, Commands.Check.{Derived, IsCheck}, Commands.Events.IsEvents, Commands.Explain.{Explained, ExplainedStage, IsExplain}, Commands.Judge.IsJudge, Commands.Outcomes.{IsOutcomes, Tabled}, Commands.Places.{IsPlaces, Placed}, Commands.Play.{IsPlay, Played}, Commands.Run.IsRun, Commands.Schedule.{IsSchedule, Scheduled}, Commands.Sends.{IsSends, Sent}, Commands.Show.{IsShow, Shown}, Commands.Swap.IsSwap, Commands.Trace.IsTrace, Commands.Upgrade.IsUpgrade}
use Rattle.pc_commands.specs.{Events.EventsTelling, Judge.accepted_text, Outcomes.IsCount, Run.Ran, Trace.Tracing}
use Rattle.pc_lib_buffers.specs.{Holding.HoldsBeside, declared.beside.Beside.Beside, declared.beside.Beside.TheVariants.{Nothing, Derivation, Schedule}}
use Rattle.pc_lib_call.specs.{Inner.Shelves.{IsVerdictOn, shelf}, Verdicts.{IsChecked, IsEventsOf, IsExplained, IsJudged, IsOutcomesOf, IsPlacesOf, IsPlayed, IsRunOf, IsScheduleOf, IsSendsOf, IsShown, IsSwapped, IsTraced, IsUpgraded, schedule_file, source_file}}
use Rattle.pc_lib_call.proofs.{Exactly.plain, Readings.{derivation_as, file_of, number_as, parts_as, scheduled_as, source_as, swap_as}}

-- the file of a name, which may be missing
abbrev seen : Text → Option Text → ℕ → Named
seen name bytes taken = record { name = name; known = Some (unwrap_or bytes []); before = 0; now = 0; taken = taken }

-- The words ask for this, and its verdict is one on the file of the source.
alone : (Is : Named → Verdict → Type 0) (asked : Asked) (words : List Text) (source : Text) → command_of words ≡ Some asked
    → ((files : Files) (v : Verdict) → IsVerdictOf files (Some asked) v → Is (named files (codes "source")) v) → (v : Verdict) → IsVerdictOn source Nothing words v
    → (taken : ℕ) × Is (file_of (codes "source") source taken) v
alone Is asked words source asks opens v h = (
  h.2,
  subst (λ (o : Option Text). Is (seen (codes "source") o h.2) v) h.1.0
      (opens (shelf h.0 h.2) v (subst (λ (o : Option Asked). IsVerdictOf (shelf h.0 h.2) o v) asks h.3)),
)

-- The same of the files of the source and of the text beside it.
together : (Is : Named → Named → Verdict → Type 0) (asked : Asked) (words : List Text) (source name second : Text) (beside : Beside) → command_of words ≡ Some asked
    → ((files : Files) (v : Verdict) → IsVerdictOf files (Some asked) v → Is (named files (codes "source")) (named files name) v)
    → ((entries : List Entry) → HoldsBeside entries beside → held entries name ≡ Some second) → (v : Verdict) → IsVerdictOn source beside words v
    → (taken : ℕ) × Is (file_of (codes "source") source taken) (file_of name second taken) v
together Is asked words source name second beside asks opens has v h = (
  h.2,
  subst (λ (o : Option Text). Is (file_of (codes "source") source h.2) (seen name o h.2) v) (has h.0 h.1.1)
      (subst (λ (o : Option Text). Is (seen (codes "source") o h.2) (seen name (held h.0 name) h.2) v) h.1.0
      (opens (shelf h.0 h.2) v (subst (λ (o : Option Asked). IsVerdictOf (shelf h.0 h.2) o v) asks h.3))),
)

module _ (forms : WrittenFormsAreTaken) (source : Text) where
  -- ---- a source alone

  pub check_asks : command_of (check_words (codes "source")) ≡ Some (check (codes "source"))
  check_asks = (forms.checks (codes "source") refl).1

  pub show_asks : command_of (show_words (codes "source")) ≡ Some (show (codes "source"))
  show_asks = (forms.shows (codes "source") refl).1

  pub sends_asks : command_of (sends_words (codes "source")) ≡ Some (sends (codes "source"))
  sends_asks = (forms.sendings (codes "source") refl).1

  pub places_asks : command_of (places_words (codes "source")) ≡ Some (places (codes "source"))
  places_asks = (forms.placings (codes "source") refl).1

  pub explain_asks : command_of (explain_words (codes "source")) ≡ Some (explain (codes "source"))
  explain_asks = (forms.explanations (codes "source") refl).1

  pub checked : (v : Verdict) → IsVerdictOn source Nothing (check_words (codes "source")) v → IsChecked source v
  checked v h =
      let t = alone IsCheck (check (codes "source")) (check_words (codes "source")) source check_asks (λ files w k. k) v h in
      source_as (AcceptedStage (codes "source")) Derived source t.0 v t.1

  pub shown : (v : Verdict) → IsVerdictOn source Nothing (show_words (codes "source")) v → IsShown source v
  shown v h =
      let t = alone IsShow (show (codes "source")) (show_words (codes "source")) source show_asks (λ files w k. k) v h in
      source_as (FileStage (codes "source")) Shown source t.0 v t.1

  pub placed : (v : Verdict) → IsVerdictOn source Nothing (places_words (codes "source")) v → IsPlacesOf source v
  placed v h =
      let t = alone IsPlaces (places (codes "source")) (places_words (codes "source")) source places_asks (λ files w k. k) v h in
      source_as (SourceStage (codes "source")) Placed source t.0 v t.1

  pub sent : (v : Verdict) → IsVerdictOn source Nothing (sends_words (codes "source")) v → IsSendsOf source v
  sent v h =
      let t = alone IsSends (sends (codes "source")) (sends_words (codes "source")) source sends_asks (λ files w k. k) v h in
      source_as (AcceptedStage (codes "source")) Sent source t.0 v t.1

  pub explained : (v : Verdict) → IsVerdictOn source Nothing (explain_words (codes "source")) v → IsExplained source v
  explained v h =
      let t = alone IsExplain (explain (codes "source")) (explain_words (codes "source")) source explain_asks (λ files w k. k) v h in
      source_as (ExplainedStage (codes "source")) Explained source t.0 v t.1

  -- ---- a source and a derivation

  pub judge_asks : command_of (judge_words (codes "source") (codes "derivation")) ≡ Some (judge (codes "source") (codes "derivation"))
  judge_asks = (forms.judges (codes "source") (codes "derivation") refl refl).1

  pub upgrade_asks : command_of (upgrade_words (codes "source") (codes "derivation")) ≡ Some (upgrade (codes "source") (codes "derivation"))
  upgrade_asks = (forms.upgrades (codes "source") (codes "derivation") refl refl).1

  pub judged : (derivation : Bor Text) (v : Verdict) → IsVerdictOn source (Derivation derivation) (judge_words (codes "source") (codes "derivation")) v → IsJudged source derivation.now v
  judged derivation v h =
      let t = together IsJudge (judge (codes "source") (codes "derivation")) (judge_words (codes "source") (codes "derivation")) source (codes "derivation") derivation.now (Derivation derivation) judge_asks (λ files w k. k) (λ entries e. e) v h in
      parts_as (λ ann. accepted_text) source derivation.now t.0 v t.1

  pub upgraded : (derivation : Bor Text) (v : Verdict) → IsVerdictOn source (Derivation derivation) (upgrade_words (codes "source") (codes "derivation")) v → IsUpgraded source derivation.now v
  upgraded derivation v h =
      let t = together IsUpgrade (upgrade (codes "source") (codes "derivation")) (upgrade_words (codes "source") (codes "derivation")) source (codes "derivation") derivation.now (Derivation derivation) upgrade_asks (λ files w k. k) (λ entries e. e) v h in
      derivation_as (deriv_text version.Two) source derivation.now t.0 v t.1

  -- ---- a source and a schedule

  pub run_asks : command_of (run_words (codes "source") (codes "schedule")) ≡ Some (run (codes "source") (codes "schedule"))
  run_asks = (forms.runs (codes "source") (codes "schedule") refl refl).1

  pub trace_asks : command_of (trace_words (codes "source") (codes "schedule")) ≡ Some (trace (codes "source") (codes "schedule"))
  trace_asks = (forms.traces (codes "source") (codes "schedule") refl refl).1

  pub events_asks : command_of (events_words (codes "source") (codes "schedule")) ≡ Some (events (codes "source") (codes "schedule"))
  events_asks = (forms.tellings (codes "source") (codes "schedule") refl refl).1

  pub swap_asks : (place : Text) → is_plain place ≡ true → command_of (swap_words (codes "source") (codes "schedule") place) ≡ Some (swap (codes "source") (codes "schedule") place)
  swap_asks place plain = (forms.swaps (codes "source") (codes "schedule") place refl refl plain).1

  pub ran : (schedule : Bor Text) (v : Verdict) → IsVerdictOn source (Schedule schedule) (run_words (codes "source") (codes "schedule")) v → IsRunOf source schedule.now v
  ran schedule v h =
      let t = together IsRun (run (codes "source") (codes "schedule")) (run_words (codes "source") (codes "schedule")) source (codes "schedule") schedule.now (Schedule schedule) run_asks (λ files w k. k) (λ entries e. e) v h in
      scheduled_as Ran source schedule.now t.0 v t.1

  pub traced : (schedule : Bor Text) (v : Verdict) → IsVerdictOn source (Schedule schedule) (trace_words (codes "source") (codes "schedule")) v → IsTraced source schedule.now v
  traced schedule v h =
      let t = together IsTrace (trace (codes "source") (codes "schedule")) (trace_words (codes "source") (codes "schedule")) source (codes "schedule") schedule.now (Schedule schedule) trace_asks (λ files w k. k) (λ entries e. e) v h in
      scheduled_as (λ name core list. EndsWith (Tracing name core list)) source schedule.now t.0 v t.1

  pub happened : (schedule : Bor Text) (v : Verdict) → IsVerdictOn source (Schedule schedule) (events_words (codes "source") (codes "schedule")) v → IsEventsOf source schedule.now v
  happened schedule v h =
      let t = together IsEvents (events (codes "source") (codes "schedule")) (events_words (codes "source") (codes "schedule")) source (codes "schedule") schedule.now (Schedule schedule) events_asks (λ files w k. k) (λ entries e. e) v h in
      scheduled_as (λ name core list. EndsWith (EventsTelling name core list)) source schedule.now t.0 v t.1

  pub swapped : (schedule : Bor Text) (n : ℕ) (place : Text) → place ≡ decimal n → n < 2 ^ 64 → (v : Verdict) → IsVerdictOn source (Schedule schedule) (swap_words (codes "source") (codes "schedule") place) v
      → IsSwapped source schedule.now n v
  swapped schedule n place is fits v h =
      let t = together (λ a b. IsSwap a b place) (swap (codes "source") (codes "schedule") place) (swap_words (codes "source") (codes "schedule") place) source (codes "schedule") schedule.now (Schedule schedule) (swap_asks place (plain n place is fits)) (λ files w k. k) (λ entries e. e) v h in
      subst (λ (p : Text). IsSwap (source_file source) (schedule_file schedule.now) p v) is (swap_as source schedule.now place t.0 v t.1)

  -- ---- a source and a number

  pub schedule_asks : (seed : Text) → is_plain seed ≡ true → command_of (schedule_words (codes "source") seed) ≡ Some (schedule_of (codes "source") seed)
  schedule_asks seed plain = (forms.schedules (codes "source") seed refl plain).1

  pub play_asks : (seed : Text) → is_plain seed ≡ true → command_of (play_words (codes "source") seed) ≡ Some (play (codes "source") seed)
  play_asks seed plain = (forms.plays (codes "source") seed refl plain).1

  pub outcomes_asks : (count : Text) → is_plain count ≡ true → command_of (outcomes_words (codes "source") count) ≡ Some (outcomes (codes "source") count)
  outcomes_asks count plain = (forms.tables (codes "source") count refl plain).1

  pub scheduled : (n : ℕ) (seed : Text) → seed ≡ decimal n → n < 2 ^ 64 → (v : Verdict) → IsVerdictOn source Nothing (schedule_words (codes "source") seed) v → IsScheduleOf source n v
  scheduled n seed is fits v h =
      let t = alone (λ f. IsSchedule f seed) (schedule_of (codes "source") seed) (schedule_words (codes "source") seed) source (schedule_asks seed (plain n seed is fits)) (λ files w k. k) v h in
      subst (λ (s : Text). IsSchedule (source_file source) s v) is (number_as (IsSeed seed) Scheduled source t.0 v t.1)

  pub played : (n : ℕ) (seed : Text) → seed ≡ decimal n → n < 2 ^ 64 → (v : Verdict) → IsVerdictOn source Nothing (play_words (codes "source") seed) v → IsPlayed source n v
  played n seed is fits v h =
      let t = alone (λ f. IsPlay f seed) (play (codes "source") seed) (play_words (codes "source") seed) source (play_asks seed (plain n seed is fits)) (λ files w k. k) v h in
      subst (λ (s : Text). IsPlay (source_file source) s v) is (number_as (IsSeed seed) (Played (codes "source")) source t.0 v t.1)

  pub tabled : (n : ℕ) (count : Text) → count ≡ decimal n → n < 2 ^ 64 → (v : Verdict) → IsVerdictOn source Nothing (outcomes_words (codes "source") count) v → IsOutcomesOf source n v
  tabled n count is fits v h =
      let t = alone (λ f. IsOutcomes f count) (outcomes (codes "source") count) (outcomes_words (codes "source") count) source (outcomes_asks count (plain n count is fits)) (λ files w k. k) v h in
      subst (λ (s : Text). IsOutcomes (source_file source) s v) is (number_as (IsCount count) (Tabled (codes "source")) source t.0 v t.1)
