use Rattle.std.proofs.{Common.{◌≡◌, ◌++◌, ◌+◌, codes, drop, subst}, lemmas.List.drop_all}
use Rattle.pc_base.proofs.Cuts.{item_first}
use Rattle.pc_tree.specs.View.{item_view, items_view}
use Rattle.pc_print.specs.Parts as parts
use Rattle.pc_print.specs.Printing as text
use Rattle.pc_print.proofs.Turns.{turn, nothing_left}
use Rattle.pc_print.proofs.member.push_lines.Goals as goal

pub loop-item-preserved : goal.loop-item-preserved
loop-item-preserved c =
    let l = c.loop-item in
    let xs = c.args.items.now in
    let x = c.item-item.result in
    let e = subst (λ ys. l.out.items ++ parts.printed_lines (items_view ys) ≡ c.args.out.now.items ++ parts.printed_lines (items_view c.args.items.now)) (item_first xs l.item-index x c.loop-item-test.true c.item-item.is) l.invariant in
    let rest = parts.printed_lines (items_view (drop (l.item-index + 1) xs)) in
    turn _ _ (text.printed_item (item_view x)) rest _ c.in_ok-push_item.ensures (turn _ _ (codes "\n    ") (text.printed_item (item_view x) ++ rest) _ c.in_ok-extend_from_slice.ensures.items e)

pub returns : goal.returns
returns c =
    let l = c.loop-item in
    nothing_left _ _ (subst (λ ys. l.out.items ++ parts.printed_lines (items_view ys) ≡ c.args.out.now.items ++ parts.printed_lines (items_view c.args.items.now)) (drop_all l.item-index c.args.items.now c.loop-item-test.false) l.invariant)
