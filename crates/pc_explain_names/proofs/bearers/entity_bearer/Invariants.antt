use Rattle.std.proofs.Common.{◌≡◌, drop, map}
use Rattle.pc_explain_names.specs.Bearers.{entity_bearer}
use Rattle.pc_tree.specs.View.{entity_view}
use Rattle.pc_explain_names.proofs.bearers.entity_bearer.Given as goal

abbrev pub invariant-loop-entity : goal.invariant-loop-entity
invariant-loop-entity l = entity_bearer l.bytes l.name l.at (map entity_view (drop l.entity-index l.entities)) ≡ entity_bearer l.bytes l.name l.at (map entity_view l.entities)
