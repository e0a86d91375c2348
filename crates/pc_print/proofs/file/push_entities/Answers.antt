use Rattle.std.proofs.{Common.{◌≡◌, ◌++◌, ◌+◌, codes, cond, drop, map, subst}, lemmas.List.drop_all}
use Rattle.pc_base.proofs.Cuts.{item_first}
use Rattle.pc_print.specs.Parts as parts
use Rattle.pc_print.specs.Printing as text
use Rattle.pc_tree.specs.View.{entity_view}
use Rattle.pc_print.proofs.Turns.{turn_between, nothing_left_between}
use Rattle.pc_print.proofs.file.push_entities.Goals as goal

pub loop-entity-preserved : goal.loop-entity-preserved
loop-entity-preserved c =
    let l = c.loop-entity in
    let xs = c.args.entities.now in
    let e = subst (λ ys. l.out.items ++ cond l.first (parts.printed_entities (map entity_view ys)) (parts.more_entities (map entity_view ys)) ≡ c.args.out.now.items ++ parts.printed_entities (map entity_view c.args.entities.now)) (item_first xs l.entity-index c.entity-item.result c.loop-entity-test.true c.entity-item.is) l.invariant in
    turn_between l.first _ _ _ (codes "\n\n") (text.printed_entity (entity_view c.entity-item.result)) (parts.more_entities (map entity_view (drop (l.entity-index + 1) xs))) _ c.in_ok-push_between.ensures c.in_ok-push_entity.ensures e

pub returns : goal.returns
returns c =
    let l = c.loop-entity in
    nothing_left_between l.first _ _ (subst (λ ys. l.out.items ++ cond l.first (parts.printed_entities (map entity_view ys)) (parts.more_entities (map entity_view ys)) ≡ c.args.out.now.items ++ parts.printed_entities (map entity_view c.args.entities.now)) (drop_all l.entity-index c.args.entities.now c.loop-entity-test.false) l.invariant)
