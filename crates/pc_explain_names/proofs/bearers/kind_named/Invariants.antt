use Rattle.std.proofs.Common.{◌≡◌, drop, map}
use Rattle.pc_explain_names.specs.Bearers.{kind_named}
use Rattle.pc_tree.specs.View.{entity_view}
use Rattle.pc_explain_names.proofs.bearers.kind_named.Given as goal

abbrev pub invariant-loop-entity : goal.invariant-loop-entity
invariant-loop-entity l = kind_named l.name (map entity_view (drop l.entity-index l.entities)) ≡ kind_named l.name (map entity_view l.entities)
