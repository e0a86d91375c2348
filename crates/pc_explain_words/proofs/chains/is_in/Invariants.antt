use Rattle.std.proofs.Common.{◌≡◌, drop}
use Rattle.pc_sub.specs.DeclarationFaults.{is_in}
use Rattle.pc_explain_words.proofs.chains.is_in.Given as goal

abbrev pub invariant-loop-other : goal.invariant-loop-other
invariant-loop-other l = is_in l.number (drop l.other-index l.numbers) ≡ is_in l.number l.numbers
