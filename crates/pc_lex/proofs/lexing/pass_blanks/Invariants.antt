use Rattle.std.proofs.Common.{length, ◌-◌, ◌≤◌}
use Rattle.pc_lex.specs.Reading.{Passes}
use Rattle.pc_lex.proofs.lexing.pass_blanks.Given as goal

abbrev pub invariant-blanks : goal.invariant-blanks
invariant-blanks l = Passes l.text l.start l.begins l.at l.first × (l.start ≤ l.at) × (l.at ≤ length l.text)

abbrev pub decreases-blanks : goal.decreases-blanks
decreases-blanks l = length l.text - l.at
