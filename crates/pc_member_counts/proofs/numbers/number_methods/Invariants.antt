use Rattle.std.proofs.Common.{◌≡◌, ◌++◌, map, drop}
use Rattle.pc_tree.specs.View.{method_view}
use Rattle.pc_members.specs.Members.{method_texts}
use Rattle.pc_member_counts.specs.Numbers.{numbers_in}
use Rattle.pc_member_counts.proofs.numbers.number_methods.Given as goal

abbrev pub invariant-loop-method : goal.invariant-loop-method
invariant-loop-method l =
    numbers_in l.names (method_texts (map method_view l.methods)) ≡ l.numbers ++ numbers_in l.names (method_texts (map method_view (drop l.method-index l.methods)))
