use Rattle.std.proofs.Common.{◌≡◌, map, drop}
use Rattle.pc_tree.specs.View.{entity_view}
use Rattle.pc_names.specs.Faults.{main_faults}
use Rattle.pc_names.proofs.mains.check_main.Given as goal

abbrev pub invariant-loop-entity : goal.invariant-loop-entity
invariant-loop-entity l =
    main_faults (map entity_view l.entities) ≡ main_faults (map entity_view (drop l.entity-index l.entities))
