use Rattle.std.proofs.Common.{sym, ◌∙◌, arith}
use Rattle.std.specs.Prelude.{drop}
use Rattle.pc_sub.proofs.Turns.{too_few}
use Rattle.pc_base.proofs.Cuts.{left_over}
use Rattle.pc_sub.proofs.stands.params_fit.Goals as goal

pub returns-in-empty : goal.returns-in-empty
returns-in-empty c =
    sym (too_few c.args.core.now (drop c.loop-param.param-index c.args.wanted.now) c.loop-param.left.now (left_over c.args.wanted.now c.loop-param.param-index c.loop-param-test.true) (omega (arith, c.in-empty.len_below)))
    ∙ c.loop-param.invariant
