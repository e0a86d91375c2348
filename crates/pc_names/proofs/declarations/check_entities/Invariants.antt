use Rattle.std.proofs.Common.{◌≡◌, map, drop}
use Rattle.pc_tree.specs.View.{entity_view}
use Rattle.pc_names.specs.Parts as parts
use Rattle.pc_names.proofs.declarations.check_entities.Given as goal

abbrev pub invariant-loop-entity : goal.invariant-loop-entity
invariant-loop-entity l =
    parts.entities_faults l.entities l.traits (map entity_view l.all) ≡ parts.entities_faults l.entities l.traits (map entity_view (drop l.entity-index l.all))
