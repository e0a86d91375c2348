use Rattle.std.proofs.Common.{◌≡◌, drop, map}
use Rattle.pc_explain_names.specs.NameLines.{method_in}
use Rattle.pc_tree.specs.View.{entity_view}
use Rattle.pc_explain_names.proofs.unknown.one_has_method.Given as goal

abbrev pub invariant-loop-one : goal.invariant-loop-one
invariant-loop-one l =
    method_in l.bytes l.entity l.name (map entity_view (drop l.one-index l.entities)) ≡ method_in l.bytes l.entity l.name (map entity_view l.entities)
