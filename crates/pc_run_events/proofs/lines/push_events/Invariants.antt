use Rattle.std.proofs.Common.{◌≡◌, ◌++◌, drop}
use Rattle.pc_run_events.specs.Parts.{events_text}
use Rattle.pc_run_events.proofs.lines.push_events.Given as goal

abbrev pub invariant-loop-event : goal.invariant-loop-event
invariant-loop-event l = l.text.items ++ events_text l.core (drop l.event-index l.events) ≡ l.initial.text.items ++ events_text l.core l.events
