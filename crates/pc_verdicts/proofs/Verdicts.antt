-- Each command has a verdict.
use Rattle.std.proofs.Common.{Option, Some, None, refl, arith}
use Rattle.pc_args.specs.Asked.{Asked, check, events, explain, judge, make, outcomes, places, play, run, schedule_of, sends, show, swap, trace, upgrade, command_of}
use Rattle.pc_deriv.specs.Text.{derivation_limit, deriv_text}
use Rattle.pc_deriv.specs.declared.version.Version.TheVariants as version
use Rattle.pc_base.specs.Lists.{Text}
use Rattle.pc_regions.specs.Laws.{ValidIsSafe}
use Rattle.pc_sched.specs.Schedules.{schedule_limit}
use Rattle.pc_types.specs.Laws.{AcceptedNeverLacks}
use Rattle.pc_refusals.specs.{Derivation.in_parts, Verdict.{Named, named, refused}, Source.source_limit}
use Rattle.pc_refusal_lines.specs.Lines.{usage_line}
use Rattle.pc_top.specs.{Commands.IsVerdictOf, One.TellsOf, CoresFormed.CoresAreFormed}
use Rattle.pc_commands.specs.Judge.{accepted_text}
use Rattle.pc_verdicts.proofs.{Derived.check_answers, Recounting.events_answers, Running.{make_answers, play_answers, run_answers, schedule_answers}, Sending.sends_answers, Shapes.derivation_answers, Sources.{explain_answers, places_answers, show_answers}, Stages.{Answers, ReadOn, far_on}, Swapping.swap_answers, Tabled.outcomes_answers, Tracing.trace_answers}
use Rattle.pc_verdicts.specs.There.{ThereIsAVerdict, read_through}

module _ (law : CoresAreFormed) (never : AcceptedNeverLacks) (safe : ValidIsSafe) (known : Text → Option Text) where
  abbrev file : Text → Named
  file name = named (read_through known) name

  source_on : (name : Text) → ReadOn source_limit (file name)
  source_on name = far_on source_limit (file name) (omega arith)

  schedule_on : (name : Text) → ReadOn schedule_limit (file name)
  schedule_on name = far_on schedule_limit (file name) (omega arith)

  derivation_on : (name : Text) → ReadOn derivation_limit (file name)
  derivation_on name = far_on derivation_limit (file name) (omega arith)

  parts_on : (name : Text) → ReadOn derivation_limit (in_parts (file name))
  parts_on name = far_on derivation_limit (in_parts (file name)) (omega arith)

  answered : (asked : Option Asked) → TellsOf known asked → Answers (IsVerdictOf (read_through known) asked)
  answered None h = (refused 2 usage_line, refl)
  answered (Some (check source)) h = check_answers law (file source) (source_on source) h.0
  answered (Some (judge source derivation)) h =
      derivation_answers law (λ ann. accepted_text) (file source) (in_parts (file derivation)) (source_on source) h.0 (parts_on derivation) h.1.0
  answered (Some (run source schedule)) h = run_answers law never (file source) (file schedule) (source_on source) h.0 (schedule_on schedule) h.1.0
  answered (Some (show source)) h = show_answers (file source) (source_on source) h.0
  answered (Some (make seed size)) h = make_answers law never seed size
  answered (Some (swap source schedule place)) h = swap_answers law never safe (file source) (file schedule) place (source_on source) h.0 (schedule_on schedule) h.1.0
  answered (Some (trace source schedule)) h = trace_answers law safe (file source) (file schedule) (source_on source) h.0 (schedule_on schedule) h.1.0
  answered (Some (events source schedule)) h = events_answers law safe (file source) (file schedule) (source_on source) h.0 (schedule_on schedule) h.1.0
  answered (Some (places source)) h = places_answers (file source) (source_on source) h.0
  answered (Some (explain source)) h = explain_answers law (file source) (source_on source) h.0
  answered (Some (sends source)) h = sends_answers law (file source) (source_on source) h.0
  answered (Some (upgrade source derivation)) h = derivation_answers law (deriv_text version.Two) (file source) (file derivation) (source_on source) h.0 (derivation_on derivation) h.1.0
  answered (Some (schedule_of source seed)) h = schedule_answers law never (file source) seed (source_on source) h.0
  answered (Some (play source seed)) h = play_answers law never (file source) seed (source_on source) h.0
  answered (Some (outcomes source count)) h = outcomes_answers law (file source) count (source_on source) h.0

pub verdict_there : CoresAreFormed → AcceptedNeverLacks → ValidIsSafe → ThereIsAVerdict
verdict_there law never safe known words h = answered law never safe known (command_of words) h
