use Rattle.std.proofs.{Common.{◌+◌, take, drop, ◌∙◌, ap, subst, sym, arith, length-drop}, lemmas.List.take_rest}
use Rattle.pc_lex.specs.{Pieces.Written, TextReading.byte_at}
use Rattle.pc_lex.proofs.TextValues.{byte_none, written_on}
use Rattle.pc_lex.proofs.texts.unescape.Goals as goal

pub returns-in-None-clause-err : goal.returns-in-None-clause-err
returns-in-None-clause-err c = (c.loop-at.bytes, c.loop-at.invariant.1, c.loop-at-test.true, byte_none (drop c.loop-at.at c.args.body.now) (ap byte_at (sym (take_rest c.args.body.now c.loop-at.at)) ∙ sym c.in-None.ensures.value))

pub loop-at-preserved : goal.loop-at-preserved
loop-at-preserved c = (
  omega (arith, c.in-Some.ensures.within, length-drop c.loop-at.at c.args.body.now),
  subst (λ l. Written (take (c.loop-at.at + c.in-Some.found.1) c.args.body.now) l) (sym c.in_ok-push.ensures.ok)
      (written_on c.args.body.now c.loop-at.bytes c.loop-at.at c.in-Some.found c.loop-at.invariant.1 (ap byte_at (sym (take_rest c.args.body.now c.loop-at.at)) ∙ sym c.in-Some.ensures.value)),
)
