use Rattle.std.proofs.{Common.{ap, sym, ◌∙◌}, lemmas.Result.IfOk-weaker}
use Rattle.std.specs.Prelude.{List, Option}
use Rattle.pc_ann.specs.declared.annotation.Note.{Note}
use Rattle.pc_explain_conditions.specs.Failing.{reasons}
use Rattle.pc_explain.specs.Explanation.{reasons_by}
use Rattle.pc_explain.proofs.explaining.reasons_by.Goals as goal

pub returns-in-Some : goal.returns-in-Some
returns-in-Some c =
    let core = c.args.core.now in
    let slots = c.args.slots.now in
    let node = c.args.node.now in
    let m = c.args.masks in
    let children = ap (λ (ns : List Note). reasons core slots ns node m) c.as_slice.ensures in
    let is = ap (λ (o : Option (List Note)). reasons_by core slots o node m) (sym c.in-Some.is) in
    IfOk-weaker c.reasons.result _ _ (λ found e. e ∙ children ∙ is) c.reasons.ensures
