use Rattle.std.proofs.Common.{◌++◌, codes, ap, ◌∙◌}
use Rattle.pc_explain_window.proofs.Appends.{ok_after}
use Rattle.pc_explain_window.specs.Quoting.{quoted}
use Rattle.pc_explain_names.specs.{Bearers.word, NameLines.{named_line, stands_at}}
use Rattle.pc_explain_names.proofs.double.push_named_line.Goals as goal

pub returns : goal.returns
unfolding named_line
returns c =
    let r = c.push_stands_at.result in
    let whole = c.push_stands_at.new.out.items in
    let name = quoted c.args.name.now in
    let what = word c.args.bearer in
    let stands = stands_at c.args.bytes.now c.args.at in
    let words = codes " is the name of the " in
    ok_after r c.args.out.now.items c.push_bytes.new.out.items whole (codes "rule name: ") (name ++ (words ++ (what ++ stands))) c.in_ok-push_bytes.ensures
    (ok_after r c.push_bytes.new.out.items c.push_quoted.new.out.items whole name (words ++ (what ++ stands)) c.in_ok-push_quoted.ensures
    (ok_after r c.push_quoted.new.out.items c.push_bytes-2.new.out.items whole words (what ++ stands) c.in_ok-push_bytes-2.ensures
    (ok_after r c.push_bytes-2.new.out.items c.push_bytes-3.new.out.items whole what stands
    (c.in_ok-push_bytes-3.ensures ∙ ap (λ l. c.push_bytes-2.new.out.items ++ l) c.bearer_word.ensures) c.push_stands_at.ensures)))
