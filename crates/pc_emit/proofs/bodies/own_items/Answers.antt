use Rattle.std.proofs.{Common.{◌≡◌, List, Err, Bool, sym, ap, ◌∙◌, subst}, lemmas.Result.err_from_is_err_and}
use Rattle.pc_tree.specs.{declared.expression.Item.Item, View.items_view}
use Rattle.pc_body_spec.specs.Bodies as spec
use Rattle.pc_body_spec.specs.{Bodies.{roses_of_items, Scope, params_scope}, Fold.puts}
use Rattle.pc_emit.specs.{Giving.GivesNodes, Closing.ends_with}
use Rattle.pc_emit.proofs.{Walks.{inner_stops, inner_gives}, Wholes.none_is}
use Rattle.pc_emit.proofs.bodies.own_items.Goals as goal

pub returns-in_err-own : goal.returns-in_err-own
returns-in_err-own c =
    let p = err_from_is_err_and c.from_residual-in_err-own.result c.from_residual-in_err-own.ensures.1 in
    let m = c.args.number in
    let x = c.args.method.now in
    let is = c.args.seq.now.items in
    let e = c.in_err-own.field-0.0 in
    let own = λ (s : Scope) (l : List Item). puts m (roses_of_items c.args.context.now s 0 (items_view l)) c.args.nodes.now in
    let scope : c.in_ok-scope.scope ≡ params_scope x.params = c.in_ok-scope.ensures ∙ ap params_scope c.as_slice.ensures in
    let stopped : GivesNodes (Err e) c.items.new.nodes (own (params_scope x.params) is) = subst (λ s. GivesNodes (Err e) c.items.new.nodes (own s is)) scope (subst (λ l. GivesNodes (Err e) c.items.new.nodes (own c.in_ok-scope.scope l)) c.as_slice-2.ensures c.in_err-own.ensures.gives) in
    let b : Bool = spec.gives_none x.word x.result in
    rw (p.1, p.2) (inner_stops e c.items.new.nodes c.items.new.nodes (own (params_scope x.params) is) (ends_with b m 0 x.name.span) _ (none_is b m x.name.span (roses_of_items c.args.context.now (params_scope x.params) 0 (items_view is)) c.args.nodes.now) stopped)

pub returns : goal.returns
returns c =
    let m = c.args.number in
    let x = c.args.method.now in
    let is = c.args.seq.now.items in
    let own = λ (s : Scope) (l : List Item). puts m (roses_of_items c.args.context.now s 0 (items_view l)) c.args.nodes.now in
    let scope : c.in_ok-scope.scope ≡ params_scope x.params = c.in_ok-scope.ensures ∙ ap params_scope c.as_slice.ensures in
    let there = sym (ap (λ s. own s is) scope) ∙ sym (ap (own c.in_ok-scope.scope) c.as_slice-2.ensures) ∙ c.in_ok-own.ensures.gives in
    let b : Bool = spec.gives_none x.word x.result in
    let gave = subst (λ a. GivesNodes c.none_last.result c.none_last.new.nodes (ends_with a m 0 x.name.span c.in_ok-own.own c.items.new.nodes)) c.gives_none-adds.ensures c.none_last.ensures in
    inner_gives c.none_last.result c.items.new.nodes c.none_last.new.nodes c.in_ok-own.own (own (params_scope x.params) is) (ends_with b m 0 x.name.span) _ (none_is b m x.name.span (roses_of_items c.args.context.now (params_scope x.params) 0 (items_view is)) c.args.nodes.now) there gave
