use Rattle.std.proofs.Common.{◌≡◌, drop}
use Rattle.pc_rules.specs.Parts as spec
use Rattle.pc_rules.proofs.parts.through_notes.Given as goal

abbrev pub invariant-loop-index : goal.invariant-loop-index
invariant-loop-index l = spec.through_notes (drop l.index l.children) l.reached ≡ spec.through_notes l.children l.fn.masks
