use Rattle.std.proofs.Common.{sym, ◌∙◌}
use Rattle.pc_explain_conditions.specs.Failing.{holds_of}
use Rattle.pc_explain_conditions.proofs.Firsts.{typed_fails}
use Rattle.pc_explain_conditions.proofs.asking.argument_failing.Goals as goal

pub returns-then-not-holds : goal.returns-then-not-holds
returns-then-not-holds c =
    sym
    (typed_fails (holds_of c.args.site.now.core.now c.args.site.now.slots.now c.args.site.now.children.now c.args.site.now.node.now (c.args.site.now.live, c.args.site.now.set))
    c.args.params.now c.loop-param.at c.loop-param.param-index c.loop-param-test.true (sym c.holds.ensures ∙ c.if-not-holds.true))
    ∙ c.loop-param.invariant.1
