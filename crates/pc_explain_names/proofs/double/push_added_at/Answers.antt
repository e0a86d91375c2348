use Rattle.std.proofs.Common.{◌++◌, codes, ap, ◌∙◌}
use Rattle.pc_base.specs.Lists.{line_end}
use Rattle.pc_tree.specs.View.{entity_view}
use Rattle.pc_explain_window.proofs.Appends.{ok_after}
use Rattle.pc_explain_window.specs.{Places.line_and_column, Quoting.piece}
use Rattle.pc_explain_names.specs.NameLines.{added_at}
use Rattle.pc_explain_names.proofs.double.push_added_at.Goals as goal

pub returns : goal.returns
unfolding added_at
returns c =
    let r = c.push_bytes-3.result in
    let whole = c.push_bytes-3.new.out.items in
    let here = line_and_column c.args.bytes.now c.args.at in
    let words = codes ", and a constructor `create` is added to " in
    let name = piece (entity_view c.args.entity.now).name.text in
    let last = codes ", which has none" ++ line_end in
    ok_after r c.args.out.now.items c.push_bytes.new.out.items whole (codes " at ") (here ++ (words ++ (name ++ last))) c.in_ok-push_bytes.ensures
    (ok_after r c.push_bytes.new.out.items c.push_place.new.out.items whole here (words ++ (name ++ last)) c.in_ok-push_place.ensures
    (ok_after r c.push_place.new.out.items c.push_bytes-2.new.out.items whole words (name ++ last) c.in_ok-push_bytes-2.ensures
    (ok_after r c.push_bytes-2.new.out.items c.push_piece.new.out.items whole name last (c.in_ok-push_piece.ensures ∙ ap (λ l. c.push_bytes-2.new.out.items ++ piece l) c.as_slice.ensures)
    c.push_bytes-3.ensures)))
