use Rattle.std.proofs.Common.{◌≡◌, drop}
use Rattle.pc_explain_words.specs.Misfits.{params_misfit}
use Rattle.pc_explain_words.proofs.misfits.params_misfit.Given as goal

abbrev pub invariant-loop-param : goal.invariant-loop-param
invariant-loop-param l =
    (l.index ≡ l.param-index) × (params_misfit l.core l.index (drop l.param-index l.wanted) l.left ≡ params_misfit l.core 0 l.wanted l.fn.given)
