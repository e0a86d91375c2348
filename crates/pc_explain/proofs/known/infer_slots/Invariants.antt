use Rattle.std.proofs.Common.{◌≡◌, drop, length}
use Rattle.pc_explain.specs.Known.{with_inferred_slots}
use Rattle.pc_explain.proofs.known.infer_slots.Given as goal

abbrev pub invariant-loop-node : goal.invariant-loop-node
invariant-loop-node l =
    (length l.known.slots ≡ length l.core.slots)
    × (with_inferred_slots l.core l.known (drop l.node-index l.nodes) ≡ with_inferred_slots l.core l.initial.known l.nodes)
