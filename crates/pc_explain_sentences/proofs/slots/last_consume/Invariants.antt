use Rattle.std.proofs.Common.{◌≡◌, None, drop}
use Rattle.pc_explain_sentences.specs.Slots.{last_consume}
use Rattle.pc_explain_sentences.proofs.slots.last_consume.Given as goal

abbrev pub invariant-loop-node : goal.invariant-loop-node
invariant-loop-node l = last_consume l.method l.slot l.found (drop l.node-index l.nodes) ≡ last_consume l.method l.slot None l.nodes
