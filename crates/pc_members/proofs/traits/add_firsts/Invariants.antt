use Rattle.std.proofs.Common.{◌≡◌, ◌++◌, drop}
use Rattle.pc_members.specs.{MemberLists.with_names, Rounds.{first_members, member_texts}, Numbered.numbered_view}
use Rattle.pc_members.proofs.traits.add_firsts.Given as goal

abbrev pub invariant-loop-member : goal.invariant-loop-member
invariant-loop-member l =
    (numbered_view l.fn.list ++ first_members l.fn.known (numbered_view l.members) ≡ numbered_view l.list ++ first_members l.known (numbered_view (drop l.member-index l.members)))
    × (with_names l.fn.known (member_texts (numbered_view l.members)) ≡ with_names l.known (member_texts (numbered_view (drop l.member-index l.members))))
