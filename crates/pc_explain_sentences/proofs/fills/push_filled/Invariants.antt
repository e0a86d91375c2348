use Rattle.std.proofs.Common.{◌≡◌, ◌++◌, ◌≤◌, drop}
use Rattle.pc_explain_sentences.specs.Fills.{filled}
use Rattle.pc_explain_sentences.proofs.fills.push_filled.Given as goal

abbrev pub invariant-each : goal.invariant-each
invariant-each l =
    (l.out.items ++ filled l.stop l.fills l.next (drop l.byte-index l.sentence) ≡ l.initial.out.items ++ filled l.stop l.fills 0 l.sentence)
    × (l.next ≤ l.byte-index)
