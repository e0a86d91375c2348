-- How the run of a list of actors ends.
use Rattle.std.specs.Prelude.{◌≡◌, ◌≤◌, ℕ, List, Some, None, Result, MatchResult}
use Rattle.pc_core.specs.CoreData.{CoreData}
use Rattle.pc_machine.specs.Machines.{MachineData}
use Rattle.pc_semantics.specs.{Step.{after, outcomes}, Text.end_of}
use Rattle.pc_list_steps.specs.{declared.fault.StepsFault.StepsFault, declared.fault.StepsFault.TheVariants.{TooLong, Memory}}
use Rattle.pc_semantics.specs.declared.outcome.Outcome.TheVariants as outcome

-- The machine of the core after all steps of the list.
abbrev pub IsMachineAfter : CoreData → List ℕ → MachineData → Type 0
IsMachineAfter core list machine = (machine.core ≡ core) × (machine.configuration ≡ after core list)

-- The step at this place is the first one of the list that is too long, and the machine is the one before it; or memory
-- ran out.
abbrev pub RunStops : CoreData → List ℕ → StepsFault → Type 0
RunStops core list (TooLong step machine) = (end_of (outcomes core list) ≡ Some (step, outcome.TooLong)) × IsMachineAfter core list machine
RunStops core list Memory = Unit {0}

-- No step of the list ended the run, and the machine is the one after it; or the run stopped.
abbrev pub RunEnds : CoreData → List ℕ → Result MachineData StepsFault → Type 0
RunEnds core list result = MatchResult result (λ machine. (end_of (outcomes core list) ≡ None) × IsMachineAfter core list machine) (RunStops core list)

-- A step that is too long is one of the first n.
abbrev pub StopsWithin : ℕ → StepsFault → Type 0
StopsWithin n (TooLong step machine) = step ≤ n
StopsWithin n Memory = Unit {0}
