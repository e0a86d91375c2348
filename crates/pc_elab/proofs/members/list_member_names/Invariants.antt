use Rattle.std.proofs.Common.{◌≡◌, ◌++◌, drop, map}
use Rattle.pc_members.specs.{Members.member_text, Views.members_view}
use Rattle.pc_elab.proofs.members.list_member_names.Given as goal

abbrev pub invariant-loop-member : goal.invariant-loop-member
invariant-loop-member l = map member_text (members_view l.members) ≡ l.names ++ map member_text (members_view (drop l.member-index l.members))
