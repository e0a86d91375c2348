use Rattle.std.proofs.Common.{arith}
use Rattle.pc_parse.proofs.provides.provided.Goals as goal

pub type_names-requires : goal.type_names-requires
type_names-requires c = c.in_ok-begin.ensures.moves.there

pub returns-clause-moves : goal.returns-clause-moves
returns-clause-moves c = record {
  past = omega (arith, c.in_ok-begin.ensures.moves.past, c.in_ok-names.ensures.moves.past, c.in_ok-to.ensures.moves.past);
  there = c.in_ok-to.ensures.moves.there;
}
