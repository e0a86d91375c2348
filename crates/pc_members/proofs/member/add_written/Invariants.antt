use Rattle.std.proofs.Common.{◌≡◌, ◌++◌, map, drop}
use Rattle.pc_tree.specs.View.{method_view}
use Rattle.pc_members.specs.Members as spec
use Rattle.pc_members.specs.Views.{members_view}
use Rattle.pc_members.proofs.member.add_written.Given as goal

abbrev pub invariant-loop-method : goal.invariant-loop-method
invariant-loop-method l =
    members_view l.fn.members ++ map spec.written (map method_view l.methods) ≡ members_view l.members ++ map spec.written (map method_view (drop l.method-index l.methods))
