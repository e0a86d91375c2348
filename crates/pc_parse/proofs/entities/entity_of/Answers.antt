use Rattle.std.proofs.Common.{refl, sym, arith}
use Rattle.pc_grammar.specs.ReadingFile.{entity_of}
use Rattle.pc_parse.proofs.entities.entity_of.Goals as goal

pub returns-clause-gives : goal.returns-clause-gives
unfolding entity_of
returns-clause-gives c = rw (sym c.entity_word.ensures, c.in_ok-begin.ensures.gives, c.entity_cap-cap.ensures.gives, c.in_ok-name.ensures.gives, c.in_ok-provides.ensures.gives, c.after_doc-to.ensures.gives, c.in_ok-fields.ensures.gives, c.in_ok-methods.ensures.gives) refl

pub returns-clause-moves : goal.returns-clause-moves
returns-clause-moves c = record {
  past = omega (arith, c.in_ok-begin.ensures.moves.past, c.entity_cap-cap.ensures.moves.0, c.in_ok-name.ensures.moves.past, c.in_ok-provides.ensures.moves.0, c.after_doc-to.ensures.moves.0, c.in_ok-fields.ensures.moves.0, c.in_ok-methods.ensures.moves.0);
  there = c.in_ok-methods.ensures.moves.1;
}
