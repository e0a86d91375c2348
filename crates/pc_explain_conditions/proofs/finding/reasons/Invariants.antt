use Rattle.std.proofs.Common.{◌≡◌, ◌++◌, drop}
use Rattle.pc_check.specs.Inference.{rules_for}
use Rattle.pc_explain_conditions.specs.Failing as spec
use Rattle.pc_explain_conditions.proofs.finding.reasons.Given as goal

abbrev pub invariant-loop-rule : goal.invariant-loop-rule
invariant-loop-rule l =
    let among = spec.reasons_among l.site.core.now l.site.slots.now l.site.children.now l.site.node.now (l.site.live, l.site.set) in
    (l.found ++ among (drop l.rule-index (rules_for l.site.node.now.kind))) ≡ among (rules_for l.site.node.now.kind)
