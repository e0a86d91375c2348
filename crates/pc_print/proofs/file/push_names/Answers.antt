use Rattle.std.proofs.{Common.{◌≡◌, ◌++◌, ◌+◌, cond, codes, drop, refl, subst, ap, ◌∙◌}, lemmas.List.drop_all}
use Rattle.pc_base.proofs.Cuts.{item_first}
use Rattle.pc_print.specs.Parts as parts
use Rattle.pc_print.proofs.Turns.{turn_between, nothing_left_between}
use Rattle.pc_print.proofs.file.push_names.Goals as goal

pub loop-name-init : goal.loop-name-init
loop-name-init c = refl

pub loop-name-preserved : goal.loop-name-preserved
loop-name-preserved c =
    let l = c.loop-name in
    let names = c.args.names.now in
    let name = c.name-item.result in
    let e = subst (λ ns. l.out.items ++ cond l.first (parts.printed_names ns) (parts.more_names ns) ≡ c.args.out.now.items ++ parts.printed_names names) (item_first names l.name-index name c.loop-name-test.true c.name-item.is) l.invariant in
    turn_between l.first _ _ _ (codes " & ") name.text (parts.more_names (drop (l.name-index + 1) names)) _ c.in_ok-push_between.ensures (c.in_ok-extend_from_slice.ensures.items ∙ ap (λ l. c.push_between.new.out.items ++ l) c.as_slice.ensures) e

pub returns : goal.returns
returns c =
    let l = c.loop-name in
    nothing_left_between l.first _ _ (subst (λ ns. l.out.items ++ cond l.first (parts.printed_names ns) (parts.more_names ns) ≡ c.args.out.now.items ++ parts.printed_names c.args.names.now) (drop_all l.name-index c.args.names.now c.loop-name-test.false) l.invariant)
