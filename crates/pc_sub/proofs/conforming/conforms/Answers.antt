use Rattle.std.proofs.Common.{◌∙◌, sym}
use Rattle.pc_sub.specs.Agreement.{conforms_iff}
use Rattle.pc_sub.proofs.Bools.{alike}
use Rattle.pc_sub.proofs.conforming.conforms.Goals as goal

pub returns-in-Some-clause-value : goal.returns-in-Some-clause-value
returns-in-Some-clause-value c =
    let k = conforms_iff c.args.core.now c.args.entity c.args.above c.formed.ensures in
    alike _ _ (λ t. k.1 (c.in-Some.ensures.0 t)) (λ t. c.in-Some.ensures.1 (k.0 t))

pub returns-in-None-clause-methods : goal.returns-in-None-clause-methods
returns-in-None-clause-methods c =
    let k = conforms_iff c.args.core.now c.args.entity c.args.above c.formed.ensures in
    (λ t. k.0 (sym c.nothing_is_wrong.ensures ∙ t), λ h. c.nothing_is_wrong.ensures ∙ k.1 h)
