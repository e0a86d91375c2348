use Rattle.std.proofs.Common.{◌≡◌, map, drop}
use Rattle.pc_tree.specs.View.{method_view}
use Rattle.pc_members.specs.{MemberLists.is_among, Members.method_texts}
use Rattle.pc_names.proofs.declarations.has_method.Given as goal

abbrev pub invariant-loop-method : goal.invariant-loop-method
invariant-loop-method l =
    is_among l.name (method_texts (map method_view l.methods)) ≡ is_among l.name (method_texts (map method_view (drop l.method-index l.methods)))
