-- What a run returns, writes and leaves.
use Rattle.std.specs.{Prelude.{◌≡◌, ℕ, List, take, Option, Some, None, Result, Ok, Err}, Io.KnownBytes.Appends}
use Rattle.pc_core.specs.CoreData.{CoreData}
use Rattle.pc_io.specs.Sink.{HasRisen, GrowsByPrefix}
use Rattle.pc_semantics.specs.{Configurations.Configuration, Step.{after, outcomes}, Safety.LacksNothing, Text.{end_of, run_text}}
use Rattle.pc_run.specs.{declared.report.Report.Report, declared.report.RunFault.RunFault, declared.report.RunFault.TheVariants.{Sink, TooLong, Memory}, Reports.report_of}
use Rattle.pc_semantics.specs.declared.outcome.Outcome.TheVariants as outcome

-- Over every list of actors, no step lacks anything.
abbrev pub NeverLacks : CoreData → Type 0
NeverLacks core = (list : List ℕ) → LacksNothing core (after core list)

-- The configuration is the one after some of the first steps of the list.
abbrev pub IsBegun : CoreData → List ℕ → Configuration → Type 0
IsBegun core list c = (n : ℕ) × (c ≡ after core (take n list))

-- The result of running a list of actors, given how often the sink had failed before and after it: the numbers if no
-- step ended the run, or the step that was too long, or a failure of the sink. Running out of memory is always allowed.
abbrev pub IsAnswer : CoreData → List ℕ → (before now : ℕ) → Result Report RunFault → Type 0
IsAnswer core list before now (Ok report) = (end_of (outcomes core list) ≡ None) × (report ≡ report_of core list)
IsAnswer core list before now (Err (TooLong n)) = end_of (outcomes core list) ≡ Some (n, outcome.TooLong)
IsAnswer core list before now (Err Sink) = HasRisen before now
IsAnswer core list before now (Err Memory) = Unit {0}

-- The run's text was written, or a prefix of it if the sink failed or memory ran out.
abbrev pub WritesText : CoreData → List ℕ → Option (List ℕ) → Option (List ℕ) → Result Report RunFault → Type 0
WritesText core list before now (Ok report) = Appends before now (run_text core list)
WritesText core list before now (Err (TooLong n)) = Appends before now (run_text core list)
WritesText core list before now (Err Sink) = GrowsByPrefix before now (run_text core list)
WritesText core list before now (Err Memory) = GrowsByPrefix before now (run_text core list)

-- The configuration that is left: the one after all steps, or after some of the first if memory ran out.
abbrev pub Leaves : CoreData → List ℕ → Configuration → Result Report RunFault → Type 0
Leaves core list c (Err Memory) = IsBegun core list c
Leaves core list c result = c ≡ after core list
