use Rattle.std.proofs.Common.{◌++◌, codes}
use Rattle.pc_base.specs.Lists.{line_end}
use Rattle.pc_explain_window.proofs.Appends.{ok_after}
use Rattle.pc_explain_window.specs.Quoting.{piece, quoted}
use Rattle.pc_explain_names.specs.NameLines.{object_line}
use Rattle.pc_explain_names.proofs.unknown.push_object_line.Goals as goal

pub returns : goal.returns
unfolding object_line
returns c =
    let r = c.push_bytes-3.result in
    let all = c.push_bytes-3.new.out.items in
    let entity = piece c.args.entity.now in
    let words = codes " is a method: call it on an object of " in
    ok_after r c.args.out.now.items c.push_bytes.new.out.items all (codes "hint: ") (quoted c.args.name.now ++ (words ++ (entity ++ line_end)))
    c.in_ok-push_bytes.ensures
    (ok_after r c.push_bytes.new.out.items c.push_quoted.new.out.items all (quoted c.args.name.now) (words ++ (entity ++ line_end))
    c.in_ok-push_quoted.ensures
    (ok_after r c.push_quoted.new.out.items c.push_bytes-2.new.out.items all words (entity ++ line_end) c.in_ok-push_bytes-2.ensures
    (ok_after r c.push_bytes-2.new.out.items c.push_piece.new.out.items all entity line_end c.in_ok-push_piece.ensures c.push_bytes-3.ensures)))
