use Rattle.std.proofs.Common.{sym, ◌∙◌, get_or, refl}
use Rattle.pc_sub.proofs.Turns.{traits_stop, traits_pass}
use Rattle.pc_sub.proofs.traits.list_fault.Goals as goal

pub returns-in-Some : goal.returns-in-Some
returns-in-Some c =
    sym (sym c.loop-above.invariant
    ∙ traits_stop c.args.core.now c.args.entity c.args.traits.now c.loop-above.above-index (get_or c.args.traits.now c.loop-above.above-index 0) c.in-Some.fault c.loop-above-test.true refl (sym c.conform_fault.ensures ∙ c.in-Some.is))

pub loop-above-preserved : goal.loop-above-preserved
loop-above-preserved c =
    traits_pass c.args.core.now c.args.entity c.args.traits.now c.loop-above.above-index (get_or c.args.traits.now c.loop-above.above-index 0) c.loop-above-test.true refl (sym c.conform_fault.ensures ∙ c.in-None.is)
    ∙ c.loop-above.invariant
