use Rattle.std.proofs.Common.{sym, ◌∙◌, arith}
use Rattle.std.specs.Prelude.{drop}
use Rattle.pc_rules.proofs.Arguments.{too_short}
use Rattle.pc_base.proofs.Cuts.{left_over}
use Rattle.pc_explain_conditions.proofs.chosen.same_text.Goals as goal

pub returns-in-empty : goal.returns-in-empty
returns-in-empty c =
    sym (too_short (drop c.loop-byte.byte-index c.args.one.now) c.loop-byte.left.now (left_over c.args.one.now c.loop-byte.byte-index c.loop-byte-test.true) (omega (arith, c.in-empty.len_below)))
    ∙ c.loop-byte.invariant
