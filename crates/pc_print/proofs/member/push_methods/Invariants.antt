use Rattle.std.proofs.Common.{◌≡◌, ◌++◌, drop, map}
use Rattle.pc_print.specs.Parts as parts
use Rattle.pc_tree.specs.View.{method_view}
use Rattle.pc_print.proofs.member.push_methods.Given as goal

abbrev pub invariant-loop-method : goal.invariant-loop-method
invariant-loop-method l = l.out.items ++ parts.printed_methods (map method_view (drop l.method-index l.methods)) ≡ l.initial.out.items ++ parts.printed_methods (map method_view l.methods)
