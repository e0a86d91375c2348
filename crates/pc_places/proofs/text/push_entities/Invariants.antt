use Rattle.std.proofs.Common.{◌≡◌, ◌++◌, drop}
use Rattle.pc_places.specs.Text.{entities_text}
use Rattle.pc_places.proofs.text.push_entities.Given as goal

abbrev pub invariant-loop-entity : goal.invariant-loop-entity
invariant-loop-entity l = l.text.items ++ entities_text (drop l.entity-index l.core.entities) ≡ l.initial.text.items ++ entities_text l.core.entities
