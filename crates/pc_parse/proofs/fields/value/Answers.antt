use Rattle.std.proofs.Common.{arith}
use Rattle.pc_parse.proofs.fields.value.Goals as goal

pub infix-requires : goal.infix-requires
infix-requires c = c.in_ok-begin.ensures.moves.there

pub returns-clause-moves : goal.returns-clause-moves
returns-clause-moves c = (omega (arith, c.in_ok-begin.ensures.moves.past, c.in_ok-e.ensures.moves.past), c.in_ok-e.ensures.moves.there)
