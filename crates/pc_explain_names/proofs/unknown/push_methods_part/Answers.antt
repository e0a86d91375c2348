use Rattle.std.proofs.Common.{◌++◌, codes}
use Rattle.pc_base.specs.Lists.{line_end}
use Rattle.pc_members.specs.Views.{members_view}
use Rattle.pc_explain_window.proofs.Appends.{ok_after}
use Rattle.pc_explain_names.specs.{Rows.member_names, NameLines.methods_part}
use Rattle.pc_explain_names.proofs.unknown.push_methods_part.Goals as goal

pub returns : goal.returns
unfolding methods_part
returns c =
    let r = c.push_bytes-2.result in
    let last = codes ")" ++ line_end in
    let listed = member_names (members_view c.args.members.now) in
    ok_after r c.args.out.now.items c.push_bytes.new.out.items c.push_bytes-2.new.out.items (codes "), or directly before arguments one of its methods (") (listed ++ last) c.in_ok-push_bytes.ensures
    (ok_after r c.push_bytes.new.out.items c.push_member_names.new.out.items c.push_bytes-2.new.out.items listed last c.in_ok-push_member_names.ensures
    c.push_bytes-2.ensures)
