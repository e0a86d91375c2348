use Rattle.std.proofs.Common.{◌≡◌, map, drop}
use Rattle.std.specs.List.{list_any}
use Rattle.pc_tree.specs.View.{method_view}
use Rattle.pc_names.specs.Mains.{begins_program}
use Rattle.pc_names.proofs.mains.has_beginning.Given as goal

abbrev pub invariant-loop-method : goal.invariant-loop-method
invariant-loop-method l =
    list_any begins_program (map method_view l.methods) ≡ list_any begins_program (map method_view (drop l.method-index l.methods))
