use Rattle.std.proofs.{Common.{◌≡◌, List, sym, subst, ◌∙◌}, lemmas.List.drop_all}
use Rattle.pc_core.specs.declared.declarations.ParamInfo.{ParamInfo}
use Rattle.pc_explain_words.specs.Misfits.{params_misfit}
use Rattle.pc_explain_words.proofs.Standing.{none_asked}
use Rattle.pc_explain_words.proofs.misfits.params_misfit.Goals as goal

pub returns : goal.returns
returns c =
    let l = c.loop-param in
    let core = c.args.core.now in
    sym (none_asked core l.index l.left.now)
    ∙ subst (λ (ps : List ParamInfo). params_misfit core l.index ps l.left.now ≡ params_misfit core 0 c.args.wanted.now c.args.given.now)
    (drop_all l.param-index c.args.wanted.now c.loop-param-test.false) l.invariant.1
