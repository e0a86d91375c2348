use Rattle.std.proofs.Common.{◌≡◌, drop}
use Rattle.pc_rules.specs.Calls as spec
use Rattle.pc_explain_conditions.proofs.chosen.same_text.Given as goal

abbrev pub invariant-loop-byte : goal.invariant-loop-byte
invariant-loop-byte l = spec.same_text (drop l.byte-index l.one) l.left ≡ spec.same_text l.one l.other
