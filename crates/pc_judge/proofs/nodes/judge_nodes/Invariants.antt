use Rattle.std.proofs.Common.{◌≡◌}
use Rattle.pc_judge.specs.Faults as spec
use Rattle.pc_judge.proofs.nodes.judge_nodes.Given as goal

abbrev pub invariant-loop-node : goal.invariant-loop-node
invariant-loop-node l = record { passed : spec.NothingWrongBefore l.core l.ann l.number; at : l.number ≡ l.node-index }
