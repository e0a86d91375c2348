use Rattle.std.proofs.Common.{length, ◌-◌}
use Rattle.pc_lex.proofs.Reached.{Sofar}
use Rattle.pc_lex.proofs.lexing.read_all.Given as goal

abbrev pub invariant-pieces : goal.invariant-pieces
invariant-pieces l = Sofar l.text l.at l.first l.tokens.items

abbrev pub decreases-pieces : goal.decreases-pieces
decreases-pieces l = length l.text - l.at
