use Rattle.std.proofs.{Common.{◌≡◌, ◌++◌, ◌+◌, drop, map, subst}, lemmas.List.drop_all}
use Rattle.pc_base.proofs.Cuts.{item_first}
use Rattle.pc_print.specs.Parts as parts
use Rattle.pc_print.specs.Printing as text
use Rattle.pc_tree.specs.View.{field_view}
use Rattle.pc_print.proofs.Turns.{turn, nothing_left}
use Rattle.pc_print.proofs.member.push_fields.Goals as goal

pub loop-field-preserved : goal.loop-field-preserved
loop-field-preserved c =
    let l = c.loop-field in
    let xs = c.args.fields.now in
    let e = subst (λ ys. l.out.items ++ parts.printed_fields (map field_view ys) ≡ c.args.out.now.items ++ parts.printed_fields (map field_view c.args.fields.now)) (item_first xs l.field-index c.field-item.result c.loop-field-test.true c.field-item.is) l.invariant in
    turn _ _ (text.printed_field (field_view c.field-item.result))
    (parts.printed_fields (map field_view (drop (l.field-index + 1) xs))) _ c.in_ok-push_field.ensures e

pub returns : goal.returns
returns c =
    let l = c.loop-field in
    nothing_left _ _ (subst (λ ys. l.out.items ++ parts.printed_fields (map field_view ys) ≡ c.args.out.now.items ++ parts.printed_fields (map field_view c.args.fields.now)) (drop_all l.field-index c.args.fields.now c.loop-field-test.false) l.invariant)
