use Rattle.std.proofs.Common.{◌≡◌, drop}
use Rattle.pc_explain_conditions.specs.Conditions as asked
use Rattle.pc_explain_conditions.specs.Failing as spec
use Rattle.pc_explain_conditions.proofs.asking.sent_failing.Given as goal

abbrev pub invariant-loop-param : goal.invariant-loop-param
invariant-loop-param l =
    let holds = spec.holds_of l.site.core.now l.site.slots.now l.site.children.now l.site.node.now (l.site.live, l.site.set) in
    (l.at ≡ l.param-index) × (spec.first_false holds (asked.arguments_sent l.at (drop l.param-index l.params)) ≡ spec.first_false holds (asked.arguments_sent 0 l.params))
