use Rattle.std.proofs.Common.{◌≡◌, map, drop}
use Rattle.std.specs.List.{list_any}
use Rattle.pc_tree.specs.Tree as tree
use Rattle.pc_tree.specs.View.{method_view}
use Rattle.pc_members.specs.Members.{is_new}
use Rattle.pc_members.proofs.constructors.has_constructor.Given as goal

abbrev pub invariant-loop-method : goal.invariant-loop-method
invariant-loop-method l =
    list_any (λ (m : tree.Method). is_new m.word) (map method_view l.methods) ≡ list_any (λ (m : tree.Method). is_new m.word) (map method_view (drop l.method-index l.methods))
