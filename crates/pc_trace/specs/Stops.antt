-- How a trace ends: with what is reported of the whole run, or at a step that stops it.
use Rattle.std.specs.Prelude.{◌≡◌, ◌≤◌, ℕ, List, length, Some}
use Rattle.pc_core.specs.CoreData.{CoreData}
use Rattle.pc_semantics.specs.{declared.outcome.Lack.Lack, Step.{after, outcomes}, Text.end_of}
use Rattle.pc_trace.specs.{declared.touch.Trace.Trace, declared.fault.TraceFault.TraceFault, declared.fault.AcceptedFault.AcceptedFault, Traces.{actor_limit, AllTouches, VerdictIs, RanOn, TooManyAt, TooLongAt}}
use Rattle.pc_semantics.specs.declared.outcome.Outcome.TheVariants as outcome
use Rattle.pc_trace.specs.declared.fault.TraceFault.TheVariants as fault
use Rattle.pc_trace.specs.declared.fault.AcceptedFault.TheVariants as accepted

abbrev pub IsTraceOfRun : CoreData → List ℕ → Trace → Type 0
IsTraceOfRun core list t = RanOn core list × AllTouches core list t.touches × VerdictIs core list t.verdict

abbrev pub LacksAt : CoreData → List ℕ → ℕ → Type 0
LacksAt core list n = (l : Lack) × (end_of (outcomes core list) ≡ Some (n, outcome.Lacks l)) × (length (after core list).actors ≤ actor_limit)

abbrev pub TraceStops : CoreData → List ℕ → TraceFault → Type 0
TraceStops core list (fault.TooLong n) = TooLongAt core list n
TraceStops core list (fault.Lacks n) = LacksAt core list n
TraceStops core list (fault.TooMany n) = TooManyAt core list n
TraceStops core list fault.Memory = Unit {0}

abbrev pub AcceptedStops : CoreData → List ℕ → AcceptedFault → Type 0
AcceptedStops core list (accepted.TooLong n) = TooLongAt core list n
AcceptedStops core list (accepted.TooMany n) = TooManyAt core list n
AcceptedStops core list accepted.Memory = Unit {0}
