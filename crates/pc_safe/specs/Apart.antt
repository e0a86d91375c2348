-- No actors race in the machine that a run leaves, and what waits there is let alone.
use Rattle.std.specs.Prelude.{Result, MatchResult}
use Rattle.pc_core.specs.CoreData.{CoreData}
use Rattle.pc_machine.specs.Machines.{MachineData}
use Rattle.pc_semantics.specs.Safety.{Race, Quiet}
use Rattle.pc_list_steps.specs.{declared.fault.StepsFault.StepsFault, declared.fault.StepsFault.TheVariants.{TooLong, Memory}}

-- The machine's configuration has no race, and is quiet.
abbrev pub IsRaceFreeAndQuiet : CoreData → MachineData → Type 0
IsRaceFreeAndQuiet core machine = (Race core machine.configuration → ⊥) × Quiet core machine.configuration

-- So does that of the machine before a step that is too long.
abbrev pub StopsApart : CoreData → StepsFault → Type 0
StopsApart core (TooLong step machine) = IsRaceFreeAndQuiet core machine
StopsApart core Memory = Unit {0}

abbrev pub EndsApart : CoreData → Result MachineData StepsFault → Type 0
EndsApart core result = MatchResult result (IsRaceFreeAndQuiet core) (StopsApart core)
