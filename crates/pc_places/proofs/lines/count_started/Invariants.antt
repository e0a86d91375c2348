use Rattle.std.proofs.Common.{◌≡◌, ◌+◌, ◌≤◌, drop}
use Rattle.std.specs.Prelude.{count_by}
use Rattle.pc_places.specs.Names.{starts_by}
use Rattle.pc_places.proofs.lines.count_started.Given as goal

abbrev pub invariant-loop-entity : goal.invariant-loop-entity
invariant-loop-entity l = record {
  rest : l.count + count_by (starts_by l.place) (drop l.entity-index l.entities) ≡ count_by (starts_by l.place) l.entities;
  few : l.count ≤ l.entity-index;
}
