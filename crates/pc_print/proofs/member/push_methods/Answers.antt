use Rattle.std.proofs.{Common.{◌≡◌, ◌++◌, ◌+◌, drop, map, subst}, lemmas.List.drop_all}
use Rattle.pc_base.proofs.Cuts.{item_first}
use Rattle.pc_print.specs.Parts as parts
use Rattle.pc_print.specs.Printing as text
use Rattle.pc_tree.specs.View.{method_view}
use Rattle.pc_print.proofs.Turns.{turn, nothing_left}
use Rattle.pc_print.proofs.member.push_methods.Goals as goal

pub loop-method-preserved : goal.loop-method-preserved
loop-method-preserved c =
    let l = c.loop-method in
    let xs = c.args.methods.now in
    let e = subst (λ ys. l.out.items ++ parts.printed_methods (map method_view ys) ≡ c.args.out.now.items ++ parts.printed_methods (map method_view c.args.methods.now)) (item_first xs l.method-index c.method-item.result c.loop-method-test.true c.method-item.is) l.invariant in
    turn _ _ (text.printed_method (method_view c.method-item.result))
    (parts.printed_methods (map method_view (drop (l.method-index + 1) xs))) _ c.in_ok-push_method.ensures e

pub returns : goal.returns
returns c =
    let l = c.loop-method in
    nothing_left _ _ (subst (λ ys. l.out.items ++ parts.printed_methods (map method_view ys) ≡ c.args.out.now.items ++ parts.printed_methods (map method_view c.args.methods.now)) (drop_all l.method-index c.args.methods.now c.loop-method-test.false) l.invariant)
