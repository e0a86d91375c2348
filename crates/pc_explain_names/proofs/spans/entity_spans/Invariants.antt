use Rattle.std.proofs.Common.{◌≡◌, ◌++◌, drop, map}
use Rattle.pc_explain_names.specs.Lists.{entity_name_span}
use Rattle.pc_tree.specs.View.{entity_view}
use Rattle.pc_explain_names.proofs.spans.entity_spans.Given as goal

abbrev pub invariant-loop-entity : goal.invariant-loop-entity
invariant-loop-entity l =
    l.spans.items ++ map entity_name_span (map entity_view (drop l.entity-index l.entities)) ≡ map entity_name_span (map entity_view l.entities)
