use Rattle.std.proofs.Common.{◌≡◌, true, sym, ◌∙◌}
use Rattle.pc_masks.specs.Masks.{has}
use Rattle.pc_explain.proofs.Unset.{passed}
use Rattle.pc_explain.proofs.setting.first_unset.Goals as goal

pub loop-index-preserved : goal.loop-index-preserved
loop-index-preserved c =
    let set : has c.args.set c.loop-index.index ≡ true = sym c.is_set.ensures ∙ c.if-not-is_set.false in
    sym (passed c.args.set c.args.fields.now c.loop-index.index c.loop-index-test.true set) ∙ c.loop-index.invariant
