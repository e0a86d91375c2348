-- Commands that run a program have a verdict: `run`, `make` and `play`; and so does `schedule`.
use Rattle.std.proofs.Common.{ℕ, List, [], ◌∷◌, Ok, inl, inr, refl, subst, arith}
use Rattle.std.specs.{Prelude.IsSome, List.AllByRecursion}
use Rattle.pc_args.specs.Line.{IsSeed, IsSize}
use Rattle.pc_choose.proofs.{Cutting.lists_are_in_turns, Listing.{lists_are_one, lists_are_short}}
use Rattle.pc_choose.specs.{Laws.IsTurn, Lists.Chosen}
use Rattle.pc_core.specs.CoreData.{CoreData}
use Rattle.pc_gen.specs.Generated.{generated_text, schedule as own_schedule}
use Rattle.pc_base.specs.Lists.{Text}
use Rattle.pc_run.specs.{Ends.NeverLacks, Spreading.spread}
use Rattle.pc_sched.specs.Schedules.{schedule_limit}
use Rattle.pc_types.specs.Laws.{AcceptedNeverLacks}
use Rattle.pc_refusals.specs.{Source.{AcceptedStage, source_limit}, Verdict.{Named, Reading, text_as, done, headed, refused}, declared.typing.Accepted.Accepted}
use Rattle.pc_refusal_lines.specs.Lines.{usage_line}
use Rattle.pc_commands.specs.{Make.{made_line, made_name}, Run.Ran, Schedule.IsChosenLine}
use Rattle.pc_top.specs.{Commands.Make.{IsMade, IsMake, MadeRun}, Commands.Make.IsMake.{made, no_numbers}, Commands.Play.{IsPlay, Played}, Commands.Run.IsRun, Commands.Schedule.{IsSchedule, Scheduled}, Shapes.OfAccepted, CoresFormed.CoresAreFormed}
use Rattle.pc_top.proofs.Deriving.{accepted_lacks_nothing}
use Rattle.pc_verdicts.proofs.{Numbers.{number_answers, seed_read, size_read, Read}, Runs.{Small, line_is_there, ran_answers, small_steps}, Shapes.{accepted_answers, scheduled_answers}, Stages.{Answers, ReadOn}}

-- ---- the list of a seed

small_turns : (turns : List (ℕ × ℕ)) → AllByRecursion IsTurn turns → AllByRecursion (λ (t : ℕ × ℕ). Small t.0) turns
small_turns [] a = tt
small_turns (t ∷ ts) a = let l = a.0.0 in (omega (arith, l), small_turns ts a.1)

chosen_small : (core : CoreData) (seed : ℕ) (list : List ℕ) → Chosen core seed list → AllByRecursion Small list
chosen_small core seed list h =
    let t = lists_are_in_turns core seed list h in
    subst (λ (l : List ℕ). AllByRecursion Small l) t.steps (small_steps t.turns (small_turns t.turns t.are))

chosen_line : (seed : ℕ) (core : CoreData) → (text : Text) × IsChosenLine seed core text
chosen_line seed core =
    let one = lists_are_one core seed in
    let line = line_is_there one.list (chosen_small core seed one.list one.chosen) (lists_are_short core seed one.list one.chosen) in
    (line.0, (one.list, one.chosen, line.1))

-- ---- the commands

module _ (law : CoresAreFormed) (never : AcceptedNeverLacks) where
  lacks_nothing : {name : Text} {r : Reading} {a : Accepted} → AcceptedStage name r (Ok a) → NeverLacks a.source.core
  lacks_nothing h = accepted_lacks_nothing law never h

  pub run_answers : (source schedule : Named) → ReadOn source_limit source → IsSome source.known → ReadOn schedule_limit schedule → IsSome schedule.known → Answers (IsRun source schedule)
  run_answers source schedule on known also too =
      scheduled_answers law Ran source schedule on known also too (λ r a h q turns g. ran_answers schedule.name a.source.core (spread turns) (lacks_nothing h))

  -- ---- a program that is made

  made_on : (name text : Text) → ReadOn source_limit (text_as name text)
  made_on name text = λ long. long

  made_run : (seed size : ℕ) (a : Accepted) → NeverLacks a.source.core → Answers (MadeRun seed size a)
  made_run seed size a h =
      let w = ran_answers made_name a.source.core (spread (own_schedule size)) h in
      (headed (made_line seed size a.source.core) w.0, (w.0, w.1, refl))

  is_made : (seed size : ℕ) → Answers (IsMade seed size)
  is_made seed size =
      accepted_answers law (MadeRun seed size) (text_as made_name (generated_text seed size)) (made_on made_name (generated_text seed size)) refl (λ r a h. made_run seed size a (lacks_nothing h))

  by_numbers : (seed size : Text) → Read (IsSeed seed) → Read (IsSize size) → Answers (IsMake seed size)
  by_numbers seed size (inl a) (inl b) = let v = is_made a.0 b.0 in (v.0, made a.0 b.0 a.1 b.1 v.1)
  by_numbers seed size (inl a) (inr refuted) = (refused 2 usage_line, no_numbers (λ n m h k. refuted m k) refl)
  by_numbers seed size (inr refuted) b = (refused 2 usage_line, no_numbers (λ n m h k. refuted n h) refl)

  pub make_answers : (seed size : Text) → Answers (IsMake seed size)
  make_answers seed size = by_numbers seed size (seed_read seed) (size_read size)

  -- ---- the list of a seed

  pub play_answers : (source : Named) (seed : Text) → ReadOn source_limit source → IsSome source.known → Answers (IsPlay source seed)
  play_answers source seed on known =
      number_answers (IsSeed seed) (λ n. OfAccepted (Played source.name n) source) (seed_read seed)
      (λ n. accepted_answers law (Played source.name n) source on known
      (λ r a h.
      let one = lists_are_one a.source.core n in
      let w = ran_answers source.name a.source.core one.list (lacks_nothing h) in
      (w.0, (one.list, one.chosen, w.1))))

  pub schedule_answers : (source : Named) (seed : Text) → ReadOn source_limit source → IsSome source.known → Answers (IsSchedule source seed)
  schedule_answers source seed on known =
      number_answers (IsSeed seed) (λ n. OfAccepted (Scheduled n) source) (seed_read seed)
      (λ n. accepted_answers law (Scheduled n) source on known (λ r a h. let line = chosen_line n a.source.core in (done line.0, (line.0, line.1, refl))))
