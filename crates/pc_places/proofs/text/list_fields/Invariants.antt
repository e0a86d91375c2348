use Rattle.std.proofs.Common.{◌≡◌, ◌++◌, drop}
use Rattle.pc_places.specs.Text.{fields_from}
use Rattle.pc_places.proofs.text.list_fields.Given as goal

abbrev pub invariant-loop-entity : goal.invariant-loop-entity
invariant-loop-entity l = record { rest : l.all ++ fields_from l.number (drop l.entity-index l.entities) ≡ fields_from 0 l.entities; at : l.number ≡ l.entity-index }
