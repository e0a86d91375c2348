use Rattle.std.proofs.Common.{◌≡◌, drop}
use Rattle.pc_members.specs.MemberLists.{with_names}
use Rattle.pc_resolve.proofs.name_row.add_names.Given as goal

abbrev pub invariant-loop-name : goal.invariant-loop-name
invariant-loop-name l = with_names l.fn.names l.row ≡ with_names l.names (drop l.name-index l.row)
