use Rattle.std.proofs.Common.{◌≡◌, ◌-◌, length}
use Rattle.pc_explain_parts.specs.Parts.{last_item, last_value}
use Rattle.pc_explain_parts.proofs.parts.last_value.Given as goal

abbrev pub invariant-loop-step : goal.invariant-loop-step
invariant-loop-step l = last_item l.core (length l.core.nodes - l._step) l.at ≡ last_value l.core l.fn.node
