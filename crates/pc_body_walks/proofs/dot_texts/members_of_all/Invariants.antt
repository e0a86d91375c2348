use Rattle.std.proofs.Common.{◌≡◌, drop, map}
use Rattle.pc_tree.specs.View.{entity_view}
use Rattle.pc_body_walks.specs.Gathering as spec
use Rattle.pc_body_walks.proofs.dot_texts.members_of_all.Given as goal

abbrev pub invariant-loop-entity : goal.invariant-loop-entity
invariant-loop-entity l = spec.with_entities l.fn.table (map entity_view l.entities) ≡ spec.with_entities l.table (map entity_view (drop l.entity-index l.entities))
