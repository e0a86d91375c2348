use Rattle.std.proofs.{Common.{◌≡◌, ◌++◌, map, ap, ◌∙◌, subst}, lemmas.Result.err_from_is_err_and}
use Rattle.pc_tree.specs.View.{field_view, items_view}
use Rattle.pc_body_spec.specs.Bodies as spec
use Rattle.pc_body_spec.specs.{Bodies.{roses_of_items, Roses, params_scope}, Fold.puts}
use Rattle.pc_emit.specs.{Giving.GivesNodes, Closing.{behind_tops, body_closes}}
use Rattle.pc_emit.proofs.{Walks.{inner_stops, inner_gives, seq_parts}, Wholes.body_on}
use Rattle.pc_emit.proofs.bodies.written.Goals as goal

pub returns-in_err-own : goal.returns-in_err-own
returns-in_err-own c =
    let p = err_from_is_err_and c.from_residual-in_err-own.result c.from_residual-in_err-own.ensures.1 in
    let m = c.args.number in
    let x = c.args.method.now in
    let s = c.args.seq.now in
    let e = c.in_err-own.field-0.0 in
    let rest : Roses = spec.none_last (spec.gives_none x.word x.result) x.name.span (roses_of_items c.args.context.now (params_scope x.params) 0 (items_view s.items)) in
    let fs = spec.initial_fields x.word (map field_view c.args.fields.now) in
    let first = subst (λ l. puts m (spec.initials_then c.args.context.now l rest) c.args.nodes.now ≡ behind_tops c.in_ok-first.first (puts m rest c.initials.new.nodes)) c.initial_fields-fields.ensures (c.in_ok-first.ensures rest) in
    rw (p.1, p.2, seq_parts s) (inner_stops e c.own_items.new.nodes c.own_items.new.nodes (puts m rest c.initials.new.nodes) (λ own. body_closes m 0 x.name.span s.span (c.in_ok-first.first ++ own)) _
    (body_on m x.name.span s.span (spec.initials_then c.args.context.now fs rest) rest c.in_ok-first.first c.args.nodes.now c.initials.new.nodes first) c.in_err-own.ensures)

pub returns : goal.returns
returns c =
    let m = c.args.number in
    let x = c.args.method.now in
    let s = c.args.seq.now in
    let rest : Roses = spec.none_last (spec.gives_none x.word x.result) x.name.span (roses_of_items c.args.context.now (params_scope x.params) 0 (items_view s.items)) in
    let fs = spec.initial_fields x.word (map field_view c.args.fields.now) in
    let first = subst (λ l. puts m (spec.initials_then c.args.context.now l rest) c.args.nodes.now ≡ behind_tops c.in_ok-first.first (puts m rest c.initials.new.nodes)) c.initial_fields-fields.ensures (c.in_ok-first.ensures rest) in
    let all : c.in_ok-all.all ≡ c.in_ok-first.first ++ c.in_ok-own.own = c.in_ok-all.ensures ∙ ap (λ l. c.in_ok-first.first ++ l) c.as_slice.ensures in
    let gave = subst (λ l. GivesNodes c.close_body.result c.close_body.new.nodes (body_closes m 0 x.name.span s.span l c.own_items.new.nodes)) all c.close_body.ensures in
    rw (seq_parts s) (inner_gives c.close_body.result c.own_items.new.nodes c.close_body.new.nodes c.in_ok-own.own (puts m rest c.initials.new.nodes) (λ own. body_closes m 0 x.name.span s.span (c.in_ok-first.first ++ own)) _
    (body_on m x.name.span s.span (spec.initials_then c.args.context.now fs rest) rest c.in_ok-first.first c.args.nodes.now c.initials.new.nodes first) c.in_ok-own.ensures gave)
