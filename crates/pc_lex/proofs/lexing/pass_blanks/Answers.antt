use Rattle.std.proofs.Common.{◌+◌, arith, subst, sym, ◌∙◌}
use Rattle.pc_lex.specs.Reading.{Passes, stays, blank}
use Rattle.pc_lex.proofs.lexing.pass_blanks.Goals as goal

pub blanks-init : goal.blanks-init
blanks-init c = (stays, omega arith, c.requires)

pub blanks-preserved : goal.blanks-preserved
blanks-preserved c = (
  subst (Passes c.args.text.now c.args.start c.args.begins (c.blanks.at + 1)) (sym c.is_first_behind-first.ensures)
      (blank c.blanks.invariant.0 c.blanks-test.true (sym c.is_blank.ensures ∙ c.if-is_blank.true)),
  omega (arith, c.blanks.invariant.1),
  omega (arith, c.blanks-test.true),
)
