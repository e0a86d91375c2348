use Rattle.std.proofs.{Common.{refl, arith}, lemmas.Option.slice_get_read}
use Rattle.pc_core.proofs.Keys.{met_before}
use Rattle.pc_core.proofs.index.MethodIndex.of.Goals as goal

pub returns-then-not-added : goal.returns-then-not-added
returns-then-not-added c =
    let m = c.method-item.result in
    let there = slice_get_read c.args.methods.now _ c.loop-method.method-index m refl (omega (arith, c.loop-method-test.true)) c.method-item.is in
    met_before c.args.methods.now c.loop-method.method-index m c.loop-method.keys.keys c.in_ok-added.added there c.loop-method.invariant.keys c.in_ok-added.ensures.added c.if-not-added.true
