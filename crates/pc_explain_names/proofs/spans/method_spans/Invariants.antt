use Rattle.std.proofs.Common.{◌≡◌, ◌++◌, drop, map}
use Rattle.pc_explain_names.specs.Lists.{method_name_span}
use Rattle.pc_tree.specs.View.{method_view}
use Rattle.pc_explain_names.proofs.spans.method_spans.Given as goal

abbrev pub invariant-loop-method : goal.invariant-loop-method
invariant-loop-method l =
    l.spans.items ++ map method_name_span (map method_view (drop l.method-index l.methods)) ≡ map method_name_span (map method_view l.methods)
