use Rattle.std.proofs.Common.{◌++◌, codes}
use Rattle.pc_base.specs.Lists.{line_end}
use Rattle.pc_explain_window.proofs.Appends.{ok_after}
use Rattle.pc_explain_window.specs.Quoting.{piece}
use Rattle.pc_explain_names.specs.NameLines.{old_value_line}
use Rattle.pc_explain_names.proofs.unknown.push_old_value_line.Goals as goal

pub returns : goal.returns
unfolding old_value_line
returns c =
    let r = c.push_bytes-2.result in
    let last = codes " = ..` gives" ++ line_end in
    let name = piece c.args.name.now in
    ok_after r c.args.out.now.items c.push_bytes.new.out.items c.push_bytes-2.new.out.items (codes "hint: its old value is what `") (name ++ last) c.in_ok-push_bytes.ensures
    (ok_after r c.push_bytes.new.out.items c.push_piece.new.out.items c.push_bytes-2.new.out.items name last c.in_ok-push_piece.ensures
    c.push_bytes-2.ensures)
