use Rattle.std.proofs.Common.{refl, sym, arith}
use Rattle.pc_grammar.specs.ReadingFile.{method_of}
use Rattle.pc_parse.proofs.methods.method_of.Goals as goal

pub returns-clause-gives : goal.returns-clause-gives
unfolding method_of
returns-clause-gives c = rw (sym c.method_word.ensures, c.in_ok-begin.ensures.gives, c.method_cap-cap.ensures.gives, c.in_ok-name.ensures.gives, c.in_ok-params.ensures.gives, c.in_ok-result.ensures.gives, c.after_doc-to.ensures.gives, c.in_ok-body.ensures.gives) refl

pub returns-clause-moves : goal.returns-clause-moves
returns-clause-moves c = record {
  past = omega (arith, c.in_ok-begin.ensures.moves.past, c.method_cap-cap.ensures.moves.0, c.in_ok-name.ensures.moves.past, c.in_ok-params.ensures.moves.past, c.in_ok-result.ensures.moves.0, c.after_doc-to.ensures.moves.0, c.in_ok-body.ensures.moves.0);
  there = c.in_ok-body.ensures.moves.1;
}

pub method_cap-cap-requires : goal.method_cap-cap-requires
method_cap-cap-requires c = c.in_ok-begin.ensures.moves.there
