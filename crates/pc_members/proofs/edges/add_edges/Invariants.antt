use Rattle.std.proofs.Common.{◌≡◌, ◌++◌, map, drop}
use Rattle.pc_tree.specs.View.{entity_view}
use Rattle.pc_members.specs.Edges.{own_edges}
use Rattle.pc_members.proofs.edges.add_edges.Given as goal

abbrev pub invariant-loop-entity : goal.invariant-loop-entity
invariant-loop-entity l =
    l.fn.edges ++ own_edges l.entities (map entity_view l.all) ≡ l.edges ++ own_edges l.entities (map entity_view (drop l.entity-index l.all))
