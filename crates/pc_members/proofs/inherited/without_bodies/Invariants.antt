use Rattle.std.proofs.Common.{◌≡◌, ◌++◌, map, drop}
use Rattle.pc_members.specs.{Rounds.bodiless, Numbered.numbered_view, Views.members_view}
use Rattle.pc_members.proofs.inherited.without_bodies.Given as goal

abbrev pub invariant-loop-numbered : goal.invariant-loop-numbered
invariant-loop-numbered l =
    map bodiless (numbered_view l.members) ≡ members_view l.list ++ map bodiless (numbered_view (drop l.numbered-index l.members))
