use Rattle.std.proofs.Common.{◌++◌, codes, ap, ◌∙◌}
use Rattle.pc_tree.specs.View.{entity_view}
use Rattle.pc_explain_window.proofs.Appends.{ok_after}
use Rattle.pc_explain_names.specs.{Bearers.word, NameLines.{added_at, added_line}}
use Rattle.pc_explain_names.proofs.double.push_added_line.Goals as goal

pub returns : goal.returns
unfolding added_line
returns c =
    let r = c.push_added_at.result in
    let whole = c.push_added_at.new.out.items in
    let what = word c.args.bearer in
    let where_ = added_at c.args.bytes.now (entity_view c.args.entity.now) c.args.at in
    ok_after r c.args.out.now.items c.push_bytes.new.out.items whole (codes "rule name: `create` is the name of the ") (what ++ where_) c.in_ok-push_bytes.ensures
    (ok_after r c.push_bytes.new.out.items c.push_bytes-2.new.out.items whole what where_
    (c.in_ok-push_bytes-2.ensures ∙ ap (λ l. c.push_bytes.new.out.items ++ l) c.bearer_word.ensures) c.push_added_at.ensures)
