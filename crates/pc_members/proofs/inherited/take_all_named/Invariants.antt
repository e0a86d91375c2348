use Rattle.std.proofs.Common.{◌≡◌, ◌++◌, drop}
use Rattle.pc_members.specs.{Rounds.{taken_members, named_all}, Numbered.numbered_table, Views.members_view}
use Rattle.pc_members.proofs.inherited.take_all_named.Given as goal

abbrev pub invariant-loop-name : goal.invariant-loop-name
invariant-loop-name l =
    members_view l.fn.list ++ taken_members l.kind l.fn.known (named_all l.entities (numbered_table l.table) l.provides) ≡ members_view l.list ++ taken_members l.kind l.known (named_all l.entities (numbered_table l.table) (drop l.name-index l.provides))
