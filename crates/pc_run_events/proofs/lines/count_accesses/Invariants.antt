use Rattle.std.proofs.Common.{◌≡◌, ◌+◌, ◌≤◌, drop, length}
use Rattle.pc_run_events.specs.Events.{touches_in}
use Rattle.pc_run_events.proofs.lines.count_accesses.Given as goal

abbrev pub invariant-loop-event : goal.invariant-loop-event
invariant-loop-event l = record {
  rest : l.count + length (touches_in (drop l.event-index l.events)) ≡ length (touches_in l.events);
  few : l.count ≤ l.event-index;
}
