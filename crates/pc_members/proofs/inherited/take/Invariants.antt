use Rattle.std.proofs.Common.{◌≡◌, ◌++◌, drop}
use Rattle.pc_members.specs.{Rounds.{taken_members, with_taken}, Numbered.numbered_view, Views.members_view}
use Rattle.pc_members.proofs.inherited.take.Given as goal

abbrev pub invariant-loop-numbered : goal.invariant-loop-numbered
invariant-loop-numbered l =
    (members_view l.fn.list ++ taken_members l.kind l.fn.known (numbered_view l.members) ≡ members_view l.list ++ taken_members l.kind l.known (numbered_view (drop l.numbered-index l.members)))
    × (with_taken l.kind l.fn.known (numbered_view l.members) ≡ with_taken l.kind l.known (numbered_view (drop l.numbered-index l.members)))
