use Rattle.std.proofs.Common.{◌≡◌, ◌++◌, cond, drop, map}
use Rattle.pc_print.specs.Parts as parts
use Rattle.pc_tree.specs.View.{entity_view}
use Rattle.pc_print.proofs.file.push_entities.Given as goal

abbrev pub invariant-loop-entity : goal.invariant-loop-entity
invariant-loop-entity l = l.out.items ++ cond l.first (parts.printed_entities (map entity_view (drop l.entity-index l.entities))) (parts.more_entities (map entity_view (drop l.entity-index l.entities))) ≡ l.initial.out.items ++ parts.printed_entities (map entity_view l.entities)
