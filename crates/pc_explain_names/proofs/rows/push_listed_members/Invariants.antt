use Rattle.std.proofs.Common.{◌≡◌, ◌++◌, drop, true}
use Rattle.pc_members.specs.Views.{members_view}
use Rattle.pc_explain_names.specs.Rows.{listed_members}
use Rattle.pc_explain_names.proofs.rows.push_listed_members.Given as goal

abbrev pub invariant-members : goal.invariant-members
invariant-members l = l.out.items ++ listed_members l.first (members_view (drop l.member-index l.members)) ≡ l.initial.out.items ++ listed_members true (members_view l.members)
