use Rattle.std.proofs.Common.{◌≡◌, ◌++◌, drop}
use Rattle.pc_members.specs.{Rounds.{first_members, named_all}, Numbered.{numbered_table, numbered_view}}
use Rattle.pc_members.proofs.traits.add_all_named.Given as goal

abbrev pub invariant-loop-name : goal.invariant-loop-name
invariant-loop-name l =
    numbered_view l.fn.list ++ first_members l.fn.known (named_all l.entities (numbered_table l.table) l.provides) ≡ numbered_view l.list ++ first_members l.known (named_all l.entities (numbered_table l.table) (drop l.name-index l.provides))
