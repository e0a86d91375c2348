use Rattle.std.proofs.Common.{◌≡◌, drop}
use Rattle.pc_rules.specs.Children as spec
use Rattle.pc_rules.proofs.children.have_notes.Given as goal

abbrev pub invariant-loop-number : goal.invariant-loop-number
invariant-loop-number l = spec.each_has l.notes (drop l.number-index l.numbers) ≡ spec.each_has l.notes l.numbers
