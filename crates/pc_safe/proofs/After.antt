-- A machine after a list of actors of a safe core.
use Rattle.std.specs.Prelude.{ℕ, List, Result, Ok, Err}
use Rattle.std.proofs.Common.{sym, subst}
use Rattle.pc_core.specs.CoreData.{CoreData}
use Rattle.pc_machine.specs.Machines.{MachineData}
use Rattle.pc_semantics.specs.{Configurations.Configuration, Safety.{Race, Quiet, Safe}}
use Rattle.pc_list_steps.specs.{declared.fault.StepsFault.StepsFault, declared.fault.StepsFault.TheVariants.{TooLong, Memory}, Ends.{IsMachineAfter, RunEnds}}
use Rattle.pc_safe.specs.Apart.{IsRaceFreeAndQuiet, EndsApart}

after_apart : (core : CoreData) (list : List ℕ) (machine : MachineData) → Safe core → IsMachineAfter core list machine → IsRaceFreeAndQuiet core machine
after_apart core list machine safe is =
    subst (λ (c : Configuration). (Race core c → ⊥) × Quiet core c) (sym is.1) ((safe list).no_race, (safe list).quiet)

-- How a run of a safe core ends.
pub ends_apart : (core : CoreData) (list : List ℕ) (result : Result MachineData StepsFault) → Safe core → RunEnds core list result → EndsApart core result
ends_apart core list (Ok machine) safe ends = after_apart core list machine safe ends.1
ends_apart core list (Err (TooLong step machine)) safe ends = after_apart core list machine safe ends.1
ends_apart core list (Err Memory) safe ends = tt
