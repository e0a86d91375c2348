use Rattle.std.proofs.{Common.{◌≡◌, ◌++◌, ◌+◌, drop, get_or, subst}, lemmas.List.{drop_all, drop_more}}
use Rattle.pc_print.specs.{Printing.escaped, Parts.all_escaped}
use Rattle.pc_print.proofs.Turns.{turn, nothing_left}
use Rattle.pc_print.proofs.expression.push_value.Goals as goal

pub loop-b-preserved : goal.loop-b-preserved
loop-b-preserved c =
    let l = c.loop-b in
    let xs = c.args.bytes.now in
    let e = subst (λ ys. l.out.items ++ all_escaped ys ≡ c.args.out.now.items ++ all_escaped c.args.bytes.now) (drop_more xs l.b-index 0 c.loop-b-test.true) l.invariant in
    turn _ _ (escaped (get_or xs l.b-index 0)) (all_escaped (drop (l.b-index + 1) xs)) _ c.in_ok-push_escaped.ensures e

pub returns : goal.returns
returns c =
    let l = c.loop-b in
    nothing_left _ _ (subst (λ ys. l.out.items ++ all_escaped ys ≡ c.args.out.now.items ++ all_escaped c.args.bytes.now) (drop_all l.b-index c.args.bytes.now c.loop-b-test.false) l.invariant)
