use Rattle.std.proofs.Common.{◌≡◌, map, drop}
use Rattle.pc_tree.specs.View.{method_view}
use Rattle.pc_names.specs.Faults as spec
use Rattle.pc_names.proofs.declarations.add_methods.Given as goal

abbrev pub invariant-loop-method : goal.invariant-loop-method
invariant-loop-method l =
    spec.method_faults l.entities l.fields l.fn.known (map method_view l.methods) ≡ spec.method_faults l.entities l.fields l.known (map method_view (drop l.method-index l.methods))
