use Rattle.std.proofs.Common.{◌≡◌, ◌++◌, drop, length}
use Rattle.pc_explain_words.specs.Caps.{cap_words}
use Rattle.pc_explain_words.proofs.caps.push_caps.Given as goal

abbrev pub invariant-loop-cap : goal.invariant-loop-cap
invariant-loop-cap l =
    (l.left ≡ length (drop l.cap-index l.caps)) × (l.out.items ++ cap_words (drop l.cap-index l.caps) ≡ l.initial.out.items ++ cap_words l.caps)
