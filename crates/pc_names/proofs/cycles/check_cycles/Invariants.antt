use Rattle.std.proofs.Common.{◌≡◌, ◌+◌, map, drop}
use Rattle.pc_tree.specs.View.{entity_view}
use Rattle.pc_names.specs.Faults.{cycle_faults}
use Rattle.pc_names.proofs.cycles.check_cycles.Given as goal

abbrev pub invariant-loop-at : goal.invariant-loop-at
invariant-loop-at l =
    cycle_faults l.first (map entity_view l.entities) l.above ≡ cycle_faults (l.first + l.at) (map entity_view (drop l.at l.entities)) (drop l.at l.above)
