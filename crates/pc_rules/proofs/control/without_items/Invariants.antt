use Rattle.std.proofs.Common.{◌≡◌, drop}
use Rattle.pc_rules.specs.Control as spec
use Rattle.pc_rules.proofs.control.without_items.Given as goal

abbrev pub invariant-loop-item : goal.invariant-loop-item
invariant-loop-item l = spec.without_items l.core (drop l.item-index l.items) l.left ≡ spec.without_items l.core l.items l.fn.live
