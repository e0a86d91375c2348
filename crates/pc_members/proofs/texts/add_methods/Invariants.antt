use Rattle.std.proofs.Common.{◌≡◌, map, drop}
use Rattle.pc_tree.specs.View.{method_view}
use Rattle.pc_members.specs.{Members.method_texts, MemberLists.with_names}
use Rattle.pc_members.proofs.texts.add_methods.Given as goal

abbrev pub invariant-loop-method : goal.invariant-loop-method
invariant-loop-method l =
    with_names l.fn.table (method_texts (map method_view l.methods)) ≡ with_names l.table (method_texts (map method_view (drop l.method-index l.methods)))
