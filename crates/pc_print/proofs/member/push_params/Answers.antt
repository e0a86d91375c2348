use Rattle.std.proofs.{Common.{◌≡◌, ◌++◌, ◌+◌, cond, codes, drop, subst}, lemmas.List.drop_all}
use Rattle.pc_base.proofs.Cuts.{item_first}
use Rattle.pc_print.specs.Parts as parts
use Rattle.pc_print.specs.Printing as text
use Rattle.pc_print.proofs.Turns.{turn_between, nothing_left_between}
use Rattle.pc_print.proofs.member.push_params.Goals as goal

pub loop-param-preserved : goal.loop-param-preserved
loop-param-preserved c =
    let l = c.loop-param in
    let xs = c.args.params.now in
    let e = subst (λ ys. l.out.items ++ cond l.first (parts.printed_params ys) (parts.more_params ys) ≡ c.args.out.now.items ++ parts.printed_params c.args.params.now) (item_first xs l.param-index c.param-item.result c.loop-param-test.true c.param-item.is) l.invariant in
    turn_between l.first _ _ _ (codes ", ") (text.printed_param c.param-item.result) (parts.more_params (drop (l.param-index + 1) xs)) _ c.in_ok-push_between.ensures c.in_ok-push_param.ensures e

pub returns : goal.returns
returns c =
    let l = c.loop-param in
    nothing_left_between l.first _ _ (subst (λ ys. l.out.items ++ cond l.first (parts.printed_params ys) (parts.more_params ys) ≡ c.args.out.now.items ++ parts.printed_params c.args.params.now) (drop_all l.param-index c.args.params.now c.loop-param-test.false) l.invariant)
