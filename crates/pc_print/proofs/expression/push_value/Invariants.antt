use Rattle.std.proofs.Common.{◌≡◌, ◌++◌, drop}
use Rattle.pc_print.specs.Parts.{all_escaped}
use Rattle.pc_print.proofs.expression.push_value.Given as goal

abbrev pub invariant-loop-b : goal.invariant-loop-b
invariant-loop-b l = l.out.items ++ all_escaped (drop l.b-index l.bytes) ≡ l.initial.out.items ++ all_escaped l.bytes
