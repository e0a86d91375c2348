use Rattle.std.proofs.Common.{refl, sym, arith}
use Rattle.pc_grammar.specs.ReadingFile.{field}
use Rattle.pc_parse.proofs.fields.field.Goals as goal

pub returns-clause-gives : goal.returns-clause-gives
unfolding field
returns-clause-gives c = rw (sym c.local_word.ensures, c.in_ok-begin.ensures.gives, c.in_ok-name.ensures.gives, c.in_ok-begin-2.ensures.gives, c.in_ok-ty.ensures.gives, c.in_ok-value.ensures.gives, c.after_doc-to.ensures.gives) refl

pub returns-clause-moves : goal.returns-clause-moves
returns-clause-moves c = record {
  past = omega (arith, c.in_ok-begin.ensures.moves.past, c.in_ok-name.ensures.moves.past, c.in_ok-begin-2.ensures.moves.past, c.in_ok-ty.ensures.moves.past, c.in_ok-value.ensures.moves.0, c.after_doc-to.ensures.moves.0);
  there = c.after_doc-to.ensures.moves.1;
}

pub name-requires : goal.name-requires
name-requires c = c.in_ok-begin.ensures.moves.there

pub written_type-requires : goal.written_type-requires
written_type-requires c = c.in_ok-begin-2.ensures.moves.there
