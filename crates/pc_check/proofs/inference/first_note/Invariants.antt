use Rattle.std.proofs.Common.{◌≡◌, drop}
use Rattle.pc_check.specs.Inference as spec
use Rattle.pc_check.proofs.inference.first_note.Given as goal

abbrev pub invariant-loop-rule : goal.invariant-loop-rule
invariant-loop-rule l = spec.first_note l.core l.ann l.node l.masks (drop l.rule-index l.rules) ≡ spec.first_note l.core l.ann l.node l.masks l.rules
