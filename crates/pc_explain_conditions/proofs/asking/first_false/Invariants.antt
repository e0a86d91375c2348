use Rattle.std.proofs.Common.{◌≡◌, drop}
use Rattle.pc_explain_conditions.specs.Failing as spec
use Rattle.pc_explain_conditions.proofs.asking.first_false.Given as goal

abbrev pub invariant-loop-condition : goal.invariant-loop-condition
invariant-loop-condition l =
    let holds = spec.holds_of l.site.core.now l.site.slots.now l.site.children.now l.site.node.now (l.site.live, l.site.set) in
    spec.first_false holds (drop l.condition-index l.asked) ≡ spec.first_false holds l.asked
