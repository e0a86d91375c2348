use Rattle.std.proofs.Common.{◌≡◌, ◌++◌, map, drop}
use Rattle.pc_tree.specs.View.{method_view}
use Rattle.pc_members.specs.Members as spec
use Rattle.pc_members.specs.Numbered.{numbered_view}
use Rattle.pc_members.proofs.traits.number_methods.Given as goal

abbrev pub invariant-loop-method : goal.invariant-loop-method
invariant-loop-method l =
    (numbered_view l.fn.list ++ map spec.written (map method_view l.methods) ≡ numbered_view l.list ++ map spec.written (map method_view (drop l.method-index l.methods)))
    × (l.fn.known ≡ l.known)
