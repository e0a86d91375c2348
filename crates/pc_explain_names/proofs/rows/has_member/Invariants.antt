use Rattle.std.proofs.Common.{◌≡◌, drop}
use Rattle.std.specs.List.{list_any}
use Rattle.pc_members.specs.Views.{members_view}
use Rattle.pc_explain_names.specs.Rows.{member_is_called}
use Rattle.pc_explain_names.proofs.rows.has_member.Given as goal

abbrev pub invariant-loop-member : goal.invariant-loop-member
invariant-loop-member l =
    list_any (member_is_called l.name) (members_view (drop l.member-index l.members)) ≡ list_any (member_is_called l.name) (members_view l.members)
