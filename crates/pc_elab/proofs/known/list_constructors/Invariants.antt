use Rattle.std.proofs.Common.{◌≡◌, ◌++◌, ◌+◌, drop}
use Rattle.pc_file_spec.specs.Cores.{constructors_from}
use Rattle.pc_members.specs.Views.{members_view}
use Rattle.pc_elab.proofs.known.list_constructors.Given as goal

abbrev pub invariant-loop-member : goal.invariant-loop-member
invariant-loop-member l =
    (constructors_from l.first (members_view l.members) ≡ l.constructors ++ constructors_from l.number (members_view (drop l.member-index l.members)))
    × (l.number ≡ l.first + l.member-index)
