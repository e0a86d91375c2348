use Rattle.std.proofs.Common.{◌≡◌, take}
use Rattle.pc_outcomes.specs.Texts.{outcomes_text}
use Rattle.pc_outcomes.proofs.text.text_of.Given as goal

abbrev pub invariant-entries : goal.invariant-entries
invariant-entries l = l.all.items ≡ outcomes_text l.count (take l.entry-index l.entries)
