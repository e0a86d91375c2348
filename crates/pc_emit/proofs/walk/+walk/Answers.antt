use Rattle.std.proofs.{Common.{drop, Err, ◌≡◌, ◌≤◌, length, take, map, ℕ, ◌+◌, false, List, [], ◌∷◌, ◌++◌, Some, sym, ap, ◌∙◌, subst, arith, refl}, lemmas.Result.{err_from_is_err_and, on_ok_weaker}, lemmas.List.{drop_all, append-nil}, lemmas.Option.slice_get_read}
use Rattle.std.specs.Prelude.{option_map}
use Rattle.pc_base.specs.declared.span.Span.{Span}
use Rattle.pc_tree.proofs.Views.{view_assign, view_args, view_infix, view_not, view_if, view_name, view_while}
use Rattle.pc_tree.specs.Tree as tree
use Rattle.pc_tree.specs.{declared.expression.Item.Item, View.{expr_view, suffix_view, seq_view, exprs_view, arms_view, item_view, items_view, other_view}}
use Rattle.pc_resolve.specs.Meanings.{meaning_view}
use Rattle.pc_body_spec.specs.{Bodies.{Visible, resolve, scope_after, leaf, rose, two, three}, Fold.{put, puts, push, and_then}}
use Rattle.pc_body_spec.specs.Bodies as spec
use Rattle.pc_core.specs.declared.nodes.NodeKind.{NodeKind}
use Rattle.pc_core.specs.declared.nodes.NodeKind.TheVariants as kinds
use Rattle.pc_emit.specs.{declared.waiting.OpenArm.OpenArm, Giving.GivesNodes, Closing.{closing, arm_closes, seq_closes, link_closes, this_closes, names_none, link_of, first_of, begun, begun_by, rest_of, taken, behind_tops, OpensInnerPart, OpensOne, ReadsAtom, reading_rose, is_missing as misses, none_named, target_meaning}}
use Rattle.pc_emit.proofs.{Suffixes.{chain_opens, write_opens, begun_first, begun_value, cut_behind}, Walks.{arm_parts, seq_parts, sequence_is, inner_stops, inner_gives, links_stop, beginning_stops, begins_with_atom, begins_with_first, chain_stops, write_start, name_written, assign_none, wait_on, arms_from, stops, stops_one, stops_still, operands_none, right_none, push_none, exprs_from, called_is, arm_is, cond_none, body_none, arm_stops, opens_stop, scope_kept, items_from, on_ok}, Wholes.{behind_more, behind_none}}
use Rattle.pc_base.proofs.Cuts.{take_whole}
use Rattle.pc_emit.proofs.walk.+walk.Goals as goal

pub open_arms-loop-a-preserved : goal.open_arms-loop-a-preserved
open_arms-loop-a-preserved t c =
    let m = c.args.setting.now.number in
    let a = c.a-item.result in
    let at = slice_get_read c.args.arms.now _ c.loop-a.a-index a refl (omega (arith, c.loop-a-test.true)) c.a-item.is in
    let as2 = arms_from c.args.arms.now c.loop-a.a-index (c.loop-a.a-index + 1) a at refl in
    let sc = c.args.scope.now in
    let cond = subst (λ s. put m (spec.whole_of c.args.setting.now.context.now s c.args.setting.now.depth (seq_view a.cond)) c.loop-a.nodes ≡ Some (c.in_ok-cond.cond, c.whole.new.nodes)) c.loop-a.invariant.scope c.in_ok-cond.ensures.gives in
    let body = subst (λ s. put m (spec.whole_of c.args.setting.now.context.now s c.args.setting.now.depth (seq_view a.body)) c.whole.new.nodes ≡ Some (c.in_ok-body.body, c.whole-in-loop-a.new.nodes)) (c.in_ok-cond.ensures.scope ∙ c.loop-a.invariant.scope) c.in_ok-body.ensures.gives in
    record {
      going = λ last.
          let rest = spec.rose_of_arms c.args.setting.now.context.now sc c.args.setting.now.depth c.args.span false (arms_view (drop (c.loop-a.a-index + 1) c.args.arms.now)) last in
          let place : Span = spec.arm_place c.loop-a.first c.args.span a.span in
          let made : Span → OpenArm = λ s. record { cond = c.in_ok-cond.cond; body = c.in_ok-body.body; first = c.loop-a.first; span = s } in
          wait_on (arm_closes m c.args.setting.now.depth) c.loop-a.waiting c.push.new.self (made place) _ _ (put m rest c.whole-in-loop-a.new.nodes)
          (c.loop-a.invariant.going last ∙ ap (λ xs. and_then (put m (spec.rose_of_arms c.args.setting.now.context.now sc c.args.setting.now.depth c.args.span c.loop-a.first xs last) c.loop-a.nodes) (closing (arm_closes m c.args.setting.now.depth) c.loop-a.waiting)) (as2 ∙ ap (λ y. tree.arm y (arms_view (drop (c.loop-a.a-index + 1) c.args.arms.now))) (arm_parts a)))
          (arm_is m c.args.setting.now.depth c.loop-a.first place (spec.whole_of c.args.setting.now.context.now sc c.args.setting.now.depth (seq_view a.cond)) (spec.whole_of c.args.setting.now.context.now sc c.args.setting.now.depth (seq_view a.body)) rest c.in_ok-cond.cond c.in_ok-body.body c.loop-a.nodes c.whole.new.nodes c.whole-in-loop-a.new.nodes cond body)
          (c.in_ok-push.ensures.ok ∙ ap (λ s. c.loop-a.waiting ++ made s ∷ []) c.arm_place-place.ensures);
      scope = c.in_ok-body.ensures.scope ∙ c.in_ok-cond.ensures.scope ∙ c.loop-a.invariant.scope;
    }

pub infix-returns-in_err-left-clause-gives : goal.infix-returns-in_err-left-clause-gives
infix-returns-in_err-left-clause-gives t c =
    let p = err_from_is_err_and c.from_residual.result c.from_residual.ensures.1 in
    let x = spec.expr_of c.args.setting.now.context.now c.args.scope.now c.args.setting.now.depth (expr_view c.in-Some.first.now) in
    rw (p.1, p.2, exprs_from c.args.terms.now 0 1 c.in-Some.first.now (sym c.in-Some.ensures.value) refl) (stops c.in_err-left.field-0.0 c.expr.new.nodes c.expr.new.nodes (put c.args.setting.now.number x c.args.nodes.now) _ c.in_err-left.ensures.gives (operands_none c.args.setting.now.context.now c.args.scope.now c.args.setting.now.depth c.args.op c.args.span c.args.setting.now.number (exprs_view (drop 1 c.args.terms.now)) x c.args.nodes.now))

pub infix-returns-in_err-right-clause-gives : goal.infix-returns-in_err-right-clause-gives
infix-returns-in_err-right-clause-gives t c =
    let p = err_from_is_err_and c.from_residual-in_err-right.result c.from_residual-in_err-right.ensures.1 in
    let g = c.loop-i.invariant.going in
    let x = c.index-terms-i.result in
    let at = slice_get_read c.args.terms.now _ c.loop-i.i x refl (omega (arith, c.loop-i-test.true)) c.index-terms-i.is in
    let es = exprs_from c.args.terms.now c.loop-i.i (c.loop-i.i + 1) x at refl in
    let e = c.in_err-right.field-0.0 in
    let ns = c.expr-in-loop-i.new.nodes in
    let part = λ (sc : List Visible). put c.args.setting.now.number (spec.expr_of c.args.setting.now.context.now sc c.args.setting.now.depth (expr_view x)) c.loop-i.nodes in
    let stopped : GivesNodes (Err e) ns (part c.args.scope.now) =
    subst (λ sc. GivesNodes (Err e) ns (part sc)) c.loop-i.invariant.scope c.in_err-right.ensures.gives in
    rw (p.1, p.2, g.same, es) (stops e ns ns (part c.args.scope.now) _ stopped (right_none c.args.setting.now.context.now c.args.scope.now c.args.setting.now.depth c.args.op c.args.span c.args.setting.now.number (expr_view x) (exprs_view (drop (c.loop-i.i + 1) c.args.terms.now)) g.left c.loop-i.left c.args.nodes.now c.loop-i.nodes g.there))

pub link-returns-in_err-tops-in-Args-clause-gives : goal.link-returns-in_err-tops-in-Args-clause-gives
link-returns-in_err-tops-in-Args-clause-gives t c = λ origin.
    let p = err_from_is_err_and c.from_residual.result c.from_residual.ensures.1 in
    rw (p.1, p.2, c.in-Args.is, view_args c.in-Args.args c.in-Args.end, sym c.as_slice.ensures, called_is c.args.setting.now.number c.args.setting.now.depth (kinds.Call c.args.text) (spec.joined_span c.args.span c.in-Args.end) (spec.roses_of_exprs c.args.setting.now.context.now c.args.scope.now c.args.setting.now.depth (exprs_view c.as_slice.result.now)) origin c.args.nodes.now) (stops_one _ _ _ _ _ _ _ c.in_err-tops-in-Args.ensures.gives (λ e. rw e refl))

pub link-returns-in_ok-tops-in-Args-clause-gives : goal.link-returns-in_ok-tops-in-Args-clause-gives
unfolding link_closes
link-returns-in_ok-tops-in-Args-clause-gives t c = λ origin.
    rw (c.in-Args.is, view_args c.in-Args.args c.in-Args.end, sym c.as_slice.ensures, called_is c.args.setting.now.number c.args.setting.now.depth (kinds.Call c.args.text) (spec.joined_span c.args.span c.in-Args.end) (spec.roses_of_exprs c.args.setting.now.context.now c.args.scope.now c.args.setting.now.depth (exprs_view c.as_slice.result.now)) origin c.args.nodes.now, c.in_ok-tops-in-Args.ensures.gives, c.join-in-Args.ensures) refl

pub open_chain-returns-in_err-links-clause-gives : goal.open_chain-returns-in_err-links-clause-gives
open_chain-returns-in_err-links-clause-gives t c = λ atom.
    let p = err_from_is_err_and c.from_residual.result c.from_residual.ensures.1 in
    let m = c.args.setting.now.number in
    let d = c.args.setting.now.depth in
    let sc = c.args.scope.now in
    let cx = c.args.setting.now.context.now in
    let xs = c.args.suffixes.now in
    let beg = c.args.beginning in
    let b = begun cx sc d c.args.span beg (map suffix_view xs) atom in
    let want = λ (k : ℕ). put m (rest_of cx sc d c.args.span b (map suffix_view (take c.args.count (drop k xs)))) c.args.nodes.now in
    let e = c.in_err-links.field-0.0 in
    let stopped : OpensInnerPart (Err e) c.links.new.nodes (link_closes m d) (put m b) (want (taken beg)) = subst (λ k. OpensInnerPart (Err e) c.links.new.nodes (link_closes m d) (put m b) (want k)) c.count_taken-taken.ensures (c.in_err-links.ensures.gives b) in
    rw (p.1, p.2) (links_stop e c.links.new.nodes c.links.new.nodes (link_closes m d) (put m b) (put m atom) (want (taken beg)) stopped)

pub open_chain-returns-in-Value-clause-gives : goal.open_chain-returns-in-Value-clause-gives
open_chain-returns-in-Value-clause-gives t c = λ atom.
    let m = c.args.setting.now.number in
    let d = c.args.setting.now.depth in
    let sc = c.args.scope.now in
    let cx = c.args.setting.now.context.now in
    let xs = c.args.suffixes.now in
    let beg = c.args.beginning in
    let b = begun cx sc d c.args.span beg (map suffix_view xs) atom in
    let want = λ (k : ℕ). put m (rest_of cx sc d c.args.span b (map suffix_view (take c.args.count (drop k xs)))) c.args.nodes.now in
    let opened : want (taken beg) ≡ and_then (put m b c.links.new.nodes) (closing (link_closes m d) c.in_ok-links.links) = subst (λ k. want k ≡ and_then (put m b c.links.new.nodes) (closing (link_closes m d) c.in_ok-links.links)) c.count_taken-taken.ensures (c.in_ok-links.ensures.gives b) in
    begins_with_atom m c.links.new.nodes (link_closes m d) c.in_ok-links.links b atom (want (taken beg)) opened (begun_value cx sc d c.args.span beg (map suffix_view xs) atom c.in-Value.is)

pub open_chain-returns-in_err-origin-in-With-clause-gives : goal.open_chain-returns-in_err-origin-in-With-clause-gives
open_chain-returns-in_err-origin-in-With-clause-gives t c = λ atom.
    let p = err_from_is_err_and c.from_residual-in_err-origin-in-With.result c.from_residual-in_err-origin-in-With.ensures.1 in
    let m = c.args.setting.now.number in
    let d = c.args.setting.now.depth in
    let sc = c.args.scope.now in
    let cx = c.args.setting.now.context.now in
    let xs = c.args.suffixes.now in
    let beg = c.args.beginning in
    let b = begun cx sc d c.args.span beg (map suffix_view xs) atom in
    let want = λ (k : ℕ). put m (rest_of cx sc d c.args.span b (map suffix_view (take c.args.count (drop k xs)))) c.args.nodes.now in
    let opened : want (taken beg) ≡ and_then (put m b c.links.new.nodes) (closing (link_closes m d) c.in_ok-links.links) = subst (λ k. want k ≡ and_then (put m b c.links.new.nodes) (closing (link_closes m d) c.in_ok-links.links)) c.count_taken-taken.ensures (c.in_ok-links.ensures.gives b) in
    let x = c.index-suffixes-at.result in
    let within : taken beg ≤ length xs = omega (arith, c.requires.within) in
    let first = begun_first cx sc d c.args.span beg c.in-With.first c.in-With.at xs x atom c.in-With.is within c.index-suffixes-at.is ∙ ap (λ z. first_of cx z d c.args.span c.in-With.first (suffix_view x)) (sym c.in_ok-links.ensures.scope) in
    let n2 = c.first_args.new.nodes in
    rw (p.1, p.2) (beginning_stops c.in_err-origin-in-With.field-0.0 m c.links.new.nodes n2 n2 (link_closes m d) c.in_ok-links.links b _ (put m atom) (want (taken beg)) opened first c.in_err-origin-in-With.ensures.gives)

pub open_chain-returns-in_ok-origin-in-With-clause-gives : goal.open_chain-returns-in_ok-origin-in-With-clause-gives
open_chain-returns-in_ok-origin-in-With-clause-gives t c = λ atom.
    let m = c.args.setting.now.number in
    let d = c.args.setting.now.depth in
    let sc = c.args.scope.now in
    let cx = c.args.setting.now.context.now in
    let xs = c.args.suffixes.now in
    let beg = c.args.beginning in
    let b = begun cx sc d c.args.span beg (map suffix_view xs) atom in
    let want = λ (k : ℕ). put m (rest_of cx sc d c.args.span b (map suffix_view (take c.args.count (drop k xs)))) c.args.nodes.now in
    let opened : want (taken beg) ≡ and_then (put m b c.links.new.nodes) (closing (link_closes m d) c.in_ok-links.links) = subst (λ k. want k ≡ and_then (put m b c.links.new.nodes) (closing (link_closes m d) c.in_ok-links.links)) c.count_taken-taken.ensures (c.in_ok-links.ensures.gives b) in
    let x = c.index-suffixes-at.result in
    let within : taken beg ≤ length xs = omega (arith, c.requires.within) in
    let first = begun_first cx sc d c.args.span beg c.in-With.first c.in-With.at xs x atom c.in-With.is within c.index-suffixes-at.is ∙ ap (λ z. first_of cx z d c.args.span c.in-With.first (suffix_view x)) (sym c.in_ok-links.ensures.scope) in
    begins_with_first m c.in_ok-origin-in-With.origin c.links.new.nodes c.first_args.new.nodes (link_closes m d) c.in_ok-links.links b _ (put m atom) (want (taken beg)) opened first c.in_ok-origin-in-With.ensures.gives

pub chain-returns-in_err-opened-clause-gives : goal.chain-returns-in_err-opened-clause-gives
chain-returns-in_err-opened-clause-gives t c =
    let p = err_from_is_err_and c.from_residual.result c.from_residual.ensures.1 in
    let xs = c.as_slice-suffixes.result.now in
    let h = c.deref-head.result.now in
    let beg = c.begin-beginning.result.0 in
    let m = c.args.setting.now.number in
    let d = c.args.setting.now.depth in
    let sc = c.args.scope.now in
    let cx = c.args.setting.now.context.now in
    let w = chain_opens cx sc _ d c.args.expression.now h c.in-Chain.head c.in-Chain.suffixes xs c.in-Chain.span beg c.count_taken-taken.result _ c.behind-count.result.now c.in-Chain.is c.deref-head.ensures c.as_slice-suffixes.ensures c.as_slice.ensures c.begin-beginning.ensures.begins c.count_taken-taken.ensures c.behind-count.ensures refl in
    let a = spec.expr_of cx sc d (expr_view h) in
    let n1 = c.open_chain.new.nodes in
    rw (p.1, p.2, w) (chain_stops c.in_err-opened.field-0.0 n1 n1 (link_closes m d) (put m a) _ (c.in_err-opened.ensures.gives a))

pub chain-returns-in_err-origin-clause-gives : goal.chain-returns-in_err-origin-clause-gives
chain-returns-in_err-origin-clause-gives t c =
    let p = err_from_is_err_and c.from_residual-in_err-origin.result c.from_residual-in_err-origin.ensures.1 in
    let xs = c.as_slice-suffixes.result.now in
    let h = c.deref-head.result.now in
    let beg = c.begin-beginning.result.0 in
    let m = c.args.setting.now.number in
    let d = c.args.setting.now.depth in
    let sc = c.args.scope.now in
    let cx = c.args.setting.now.context.now in
    let w = chain_opens cx sc _ d c.args.expression.now h c.in-Chain.head c.in-Chain.suffixes xs c.in-Chain.span beg c.count_taken-taken.result _ c.behind-count.result.now c.in-Chain.is c.deref-head.ensures c.as_slice-suffixes.ensures c.as_slice.ensures c.begin-beginning.ensures.begins c.count_taken-taken.ensures c.behind-count.ensures refl in
    let a = spec.expr_of cx sc d (expr_view h) in
    let o = c.in_ok-opened.opened in
    let part = λ (z : List Visible). begun_by o.origin (put m (spec.expr_of cx z d (expr_view h))) c.open_chain.new.nodes in
    let e = c.in_err-origin.field-0.0 in
    let n2 = c.chain_origin.new.nodes in
    let atom = c.begin-beginning.result.1 in
    let reads = subst (λ z. ReadsAtom cx z (expr_view h) atom) (c.as_slice.ensures ∙ sym c.in_ok-opened.ensures.scope) c.begin-beginning.ensures.reads in
    let stopped : GivesNodes (Err e) n2 (part sc) = subst (λ z. GivesNodes (Err e) n2 (part z)) c.in_ok-opened.ensures.scope (c.in_err-origin.ensures.gives reads) in
    rw (p.1, p.2, w) (inner_stops e n2 n2 (part sc) (closing (link_closes m d) o.links) _ (c.in_ok-opened.ensures.gives a) stopped)

pub chain-returns-clause-gives : goal.chain-returns-clause-gives
chain-returns-clause-gives t c =
    let xs = c.as_slice-suffixes.result.now in
    let h = c.deref-head.result.now in
    let beg = c.begin-beginning.result.0 in
    let m = c.args.setting.now.number in
    let d = c.args.setting.now.depth in
    let sc = c.args.scope.now in
    let cx = c.args.setting.now.context.now in
    let w = chain_opens cx sc _ d c.args.expression.now h c.in-Chain.head c.in-Chain.suffixes xs c.in-Chain.span beg c.count_taken-taken.result _ c.behind-count.result.now c.in-Chain.is c.deref-head.ensures c.as_slice-suffixes.ensures c.as_slice.ensures c.begin-beginning.ensures.begins c.count_taken-taken.ensures c.behind-count.ensures refl in
    let a = spec.expr_of cx sc d (expr_view h) in
    let o = c.in_ok-opened.opened in
    let part = λ (z : List Visible). begun_by o.origin (put m (spec.expr_of cx z d (expr_view h))) c.open_chain.new.nodes in
    let n2 = c.chain_origin.new.nodes in
    let atom = c.begin-beginning.result.1 in
    let reads = subst (λ z. ReadsAtom cx z (expr_view h) atom) (c.as_slice.ensures ∙ sym c.in_ok-opened.ensures.scope) c.begin-beginning.ensures.reads in
    let there = subst (λ z. part z ≡ Some (c.in_ok-origin.origin, n2)) c.in_ok-opened.ensures.scope (c.in_ok-origin.ensures.gives reads) in
    rw w (inner_gives c.close_links.result n2 c.close_links.new.nodes c.in_ok-origin.origin (part sc) (closing (link_closes m d) o.links) _ (c.in_ok-opened.ensures.gives a) there c.close_links.ensures)

pub store-returns-in_err-opened-clause-gives : goal.store-returns-in_err-opened-clause-gives
store-returns-in_err-opened-clause-gives t c = λ v before means there first.
    let p = err_from_is_err_and c.from_residual.result c.from_residual.ensures.1 in
    let xs = c.as_slice-suffixes.result.now in
    let h = c.deref-head.result.now in
    let beg = c.begin-beginning.result.0 in
    let m = c.args.setting.now.number in
    let d = c.args.setting.now.depth in
    let sc = c.args.scope.now in
    let cx = c.args.setting.now.context.now in
    let a = spec.expr_of cx sc d (expr_view h) in
    let r = rest_of cx sc d c.in-Chain.reach (begun cx sc d c.in-Chain.reach beg (map suffix_view xs) a) (map suffix_view (take c.split_field-field.result.1 (drop (taken beg) xs))) in
    let w = write_opens cx sc _ d c.args.left.now h c.in-Chain.head c.in-Chain.suffixes xs c.in-Chain.reach c.args.span v beg c.count_taken-taken.result c.split_field-field.result.1 c.split_field-field.result.0 c.behind-written.result.now c.in-Chain.is c.deref-head.ensures c.as_slice-suffixes.ensures c.as_slice.ensures c.begin-beginning.ensures.begins c.count_taken-taken.ensures c.behind-written.ensures c.split_field-field.ensures.split in
    let begin = write_start m d c.args.span c.split_field-field.result.0 v r _ c.args.value before c.args.nodes.now w first in
    let e = c.in_err-opened.field-0.0 in
    let n1 = c.open_chain.new.nodes in
    rw (p.1, p.2) (inner_stops e n1 n1 (put m r c.args.nodes.now) _ _ begin (chain_stops e n1 n1 (link_closes m d) (put m a) _ (c.in_err-opened.ensures.gives a)))

pub store-returns-in_err-origin-clause-gives : goal.store-returns-in_err-origin-clause-gives
store-returns-in_err-origin-clause-gives t c = λ v before means there first.
    let p = err_from_is_err_and c.from_residual-in_err-origin.result c.from_residual-in_err-origin.ensures.1 in
    let xs = c.as_slice-suffixes.result.now in
    let h = c.deref-head.result.now in
    let beg = c.begin-beginning.result.0 in
    let m = c.args.setting.now.number in
    let d = c.args.setting.now.depth in
    let sc = c.args.scope.now in
    let cx = c.args.setting.now.context.now in
    let a = spec.expr_of cx sc d (expr_view h) in
    let r = rest_of cx sc d c.in-Chain.reach (begun cx sc d c.in-Chain.reach beg (map suffix_view xs) a) (map suffix_view (take c.split_field-field.result.1 (drop (taken beg) xs))) in
    let w = write_opens cx sc _ d c.args.left.now h c.in-Chain.head c.in-Chain.suffixes xs c.in-Chain.reach c.args.span v beg c.count_taken-taken.result c.split_field-field.result.1 c.split_field-field.result.0 c.behind-written.result.now c.in-Chain.is c.deref-head.ensures c.as_slice-suffixes.ensures c.as_slice.ensures c.begin-beginning.ensures.begins c.count_taken-taken.ensures c.behind-written.ensures c.split_field-field.ensures.split in
    let begin = write_start m d c.args.span c.split_field-field.result.0 v r _ c.args.value before c.args.nodes.now w first in
    let o = c.in_ok-opened.opened in
    let part = λ (z : List Visible). begun_by o.origin (put m (spec.expr_of cx z d (expr_view h))) c.open_chain.new.nodes in
    let e = c.in_err-origin.field-0.0 in
    let n2 = c.chain_origin.new.nodes in
    let atom = c.begin-beginning.result.1 in
    let reads = subst (λ z. ReadsAtom cx z (expr_view h) atom) (c.as_slice.ensures ∙ sym c.in_ok-opened.ensures.scope) c.begin-beginning.ensures.reads in
    let stopped : GivesNodes (Err e) n2 (part sc) = subst (λ z. GivesNodes (Err e) n2 (part z)) c.in_ok-opened.ensures.scope (c.in_err-origin.ensures.gives reads) in
    rw (p.1, p.2) (inner_stops e n2 n2 (put m r c.args.nodes.now) _ _ begin (inner_stops e n2 n2 (part sc) (closing (link_closes m d) o.links) _ (c.in_ok-opened.ensures.gives a) stopped))

pub store-returns-clause-gives : goal.store-returns-clause-gives
store-returns-clause-gives t c = λ v before means there first.
    let xs = c.as_slice-suffixes.result.now in
    let h = c.deref-head.result.now in
    let beg = c.begin-beginning.result.0 in
    let m = c.args.setting.now.number in
    let d = c.args.setting.now.depth in
    let sc = c.args.scope.now in
    let cx = c.args.setting.now.context.now in
    let a = spec.expr_of cx sc d (expr_view h) in
    let r = rest_of cx sc d c.in-Chain.reach (begun cx sc d c.in-Chain.reach beg (map suffix_view xs) a) (map suffix_view (take c.split_field-field.result.1 (drop (taken beg) xs))) in
    let w = write_opens cx sc _ d c.args.left.now h c.in-Chain.head c.in-Chain.suffixes xs c.in-Chain.reach c.args.span v beg c.count_taken-taken.result c.split_field-field.result.1 c.split_field-field.result.0 c.behind-written.result.now c.in-Chain.is c.deref-head.ensures c.as_slice-suffixes.ensures c.as_slice.ensures c.begin-beginning.ensures.begins c.count_taken-taken.ensures c.behind-written.ensures c.split_field-field.ensures.split in
    let begin = write_start m d c.args.span c.split_field-field.result.0 v r _ c.args.value before c.args.nodes.now w first in
    let o = c.in_ok-opened.opened in
    let part = λ (z : List Visible). begun_by o.origin (put m (spec.expr_of cx z d (expr_view h))) c.open_chain.new.nodes in
    let n2 = c.chain_origin.new.nodes in
    let atom = c.begin-beginning.result.1 in
    let reads = subst (λ z. ReadsAtom cx z (expr_view h) atom) (c.as_slice.ensures ∙ sym c.in_ok-opened.ensures.scope) c.begin-beginning.ensures.reads in
    let there = subst (λ z. part z ≡ Some (c.in_ok-origin.origin, n2)) c.in_ok-opened.ensures.scope (c.in_ok-origin.ensures.gives reads) in
    let whole : put m r c.args.nodes.now ≡ closing (link_closes m d) o.links c.in_ok-origin.origin n2 = c.in_ok-opened.ensures.gives a ∙ ap (λ z. and_then z (closing (link_closes m d) o.links)) there in
    rw (begin, whole) c.close_write.ensures

pub store_alone-returns-in-Name-clause-gives : goal.store_alone-returns-in-Name-clause-gives
store_alone-returns-in-Name-clause-gives t c = λ v before means there first.
    let cx = c.args.setting.now.context.now in
    let sc = c.args.scope.now in
    let n = c.in-Name.name in
    let e : expr_view c.args.left.now ≡ tree.name n = ap expr_view c.in-Name.is ∙ view_name n in
    let known : names_none (resolve cx sc n.text) ≡ false = subst (λ z. misses cx sc z ≡ false) e there in
    let is : option_map meaning_view c.args.target ≡ Some (resolve cx sc n.text) = means ∙ ap (target_meaning cx sc) e in
    let gave = c.write_name.ensures (resolve cx sc n.text) is in
    rw (e, name_written cx c.args.setting.now.number c.args.setting.now.depth c.args.span n (resolve cx sc n.text) v c.args.value before c.args.nodes.now known first) gave

pub expr-returns-in_err-value-in-Assign-clause-gives : goal.expr-returns-in_err-value-in-Assign-clause-gives
expr-returns-in_err-value-in-Assign-clause-gives t c =
    let p = err_from_is_err_and c.from_residual-in_err-value-in-Assign.result c.from_residual-in_err-value-in-Assign.ensures.1 in
    let cx = c.args.setting.now.context.now in
    let sc = c.args.scope.now in
    let l = expr_view c.deref-in-Assign.result.now in
    let r = spec.expr_of cx sc c.args.setting.now.depth (expr_view c.deref-in-Assign-2.result.now) in
    let known : misses cx sc l ≡ false = ap (λ z. misses cx z l) (sym c.as_slice-in-Assign.ensures) ∙ ap none_named (sym c.target_of-target.ensures) ∙ sym c.is_missing.ensures ∙ c.if-is_missing.false in
    rw (p.1, p.2, c.in-Assign.is, view_assign c.in-Assign.left c.in-Assign.right c.in-Assign.span, sym c.deref-in-Assign.ensures, sym c.deref-in-Assign-2.ensures)
    (stops c.in_err-value-in-Assign.field-0.0 c.expr-in-Assign.new.nodes c.expr-in-Assign.new.nodes (put c.args.setting.now.number r c.args.nodes.now) _ c.in_err-value-in-Assign.ensures.gives (assign_none cx sc c.args.setting.now.number c.args.setting.now.depth c.in-Assign.span r (spec.expr_of cx sc c.args.setting.now.depth l) l c.args.nodes.now known))

pub expr-returns-in_ok-value-in-Assign-clause-gives : goal.expr-returns-in_ok-value-in-Assign-clause-gives
expr-returns-in_ok-value-in-Assign-clause-gives t c =
    let m = c.args.setting.now.number in
    let d = c.args.setting.now.depth in
    let cx = c.args.setting.now.context.now in
    let l = c.deref-in-Assign-3.result.now in
    let r = spec.expr_of cx c.args.scope.now d (expr_view c.deref-in-Assign-2.result.now) in
    let left = c.deref-in-Assign.ensures ∙ sym c.deref-in-Assign-3.ensures in
    let same = c.as_slice-in-Assign.ensures ∙ sym c.in_ok-value-in-Assign.ensures.scope in
    let means = c.target_of-target.ensures ∙ ap (λ z. target_meaning cx z (expr_view c.deref-in-Assign.result.now)) same ∙ ap (λ z. target_meaning cx c.expr-in-Assign.new.scope (expr_view z)) left in
    let known : misses cx c.expr-in-Assign.new.scope (expr_view l) ≡ false = ap none_named (sym means) ∙ sym c.is_missing.ensures ∙ c.if-is_missing.false in
    let gave = c.store.ensures.gives r c.args.nodes.now means known c.in_ok-value-in-Assign.ensures.gives in
    rw (c.in-Assign.is, view_assign c.in-Assign.left c.in-Assign.right c.in-Assign.span, sym c.deref-in-Assign-3.ensures, sym c.deref-in-Assign-2.ensures)
    (subst (λ z. GivesNodes c.store.result c.store.new.nodes (put m (spec.assign_of cx z d c.in-Assign.span r (spec.expr_of cx z d (expr_view l)) (expr_view l)) c.args.nodes.now)) c.in_ok-value-in-Assign.ensures.scope gave)

pub chain_origin-returns-in-Reads-clause-gives : goal.chain_origin-returns-in-Reads-clause-gives
chain_origin-returns-in-Reads-clause-gives t c = λ reads.
    let d = c.args.setting.now.depth in
    let cx = c.args.setting.now.context.now in
    let e = expr_view c.args.head.now in
    let same : spec.expr_of cx c.args.scope.now d e ≡ reading_rose c.in-Reads.reading (tree.span_of e) d = subst (ReadsAtom cx c.args.scope.now e) c.in-Reads.is reads d in
    let gave = subst (λ s. GivesNodes c.read_atom.result c.read_atom.new.nodes (put c.args.setting.now.number (reading_rose c.in-Reads.reading s d) c.args.nodes.now)) c.span_of.ensures c.read_atom.ensures in
    rw (c.in-None.is, same) gave

pub first_args-returns-in_err-children-in-OnThis-clause-gives : goal.first_args-returns-in_err-children-in-OnThis-clause-gives
first_args-returns-in_err-children-in-OnThis-clause-gives t c =
    let p = err_from_is_err_and c.from_residual-in_err-children-in-OnThis.result c.from_residual-in_err-children-in-OnThis.ensures.1 in
    rw (p.1, p.2, c.in-OnThis.is, c.in-Args.is, view_args c.in-Args.args c.in-Args.end, sym c.as_slice-in-OnThis.ensures)
    (inner_stops c.in_err-children-in-OnThis.field-0.0 c.exprs-in-OnThis.new.nodes c.exprs-in-OnThis.new.nodes _ _ _
    (called_is c.args.setting.now.number c.args.setting.now.depth (kinds.Call c.in-OnThis.text) (spec.joined_span c.args.span c.in-Args.end) (spec.roses_of_exprs c.args.setting.now.context.now c.args.scope.now c.args.setting.now.depth (exprs_view c.as_slice-in-OnThis.result.now)) (leaf kinds.This c.in-OnThis.place c.args.setting.now.depth) c.args.nodes.now) c.in_err-children-in-OnThis.ensures.gives)

pub first_args-returns-in_ok-children-in-OnThis-clause-gives : goal.first_args-returns-in_ok-children-in-OnThis-clause-gives
unfolding this_closes
first_args-returns-in_ok-children-in-OnThis-clause-gives t c =
    let gave = subst (λ s. GivesNodes c.call_this.result c.call_this.new.nodes (this_closes c.args.setting.now.number c.args.setting.now.depth s c.in-OnThis.text c.in-OnThis.place c.in_ok-children-in-OnThis.children c.exprs-in-OnThis.new.nodes)) c.join-in-OnThis.ensures c.call_this.ensures in
    rw (c.in-OnThis.is, c.in-Args.is, view_args c.in-Args.args c.in-Args.end, sym c.as_slice-in-OnThis.ensures)
    (inner_gives c.call_this.result c.exprs-in-OnThis.new.nodes c.call_this.new.nodes c.in_ok-children-in-OnThis.children _ _ _
    (called_is c.args.setting.now.number c.args.setting.now.depth (kinds.Call c.in-OnThis.text) (spec.joined_span c.args.span c.in-Args.end) (spec.roses_of_exprs c.args.setting.now.context.now c.args.scope.now c.args.setting.now.depth (exprs_view c.as_slice-in-OnThis.result.now)) (leaf kinds.This c.in-OnThis.place c.args.setting.now.depth) c.args.nodes.now) c.in_ok-children-in-OnThis.ensures.gives gave)

pub sequence-returns-clause-gives : goal.sequence-returns-clause-gives
sequence-returns-clause-gives t c =
    let items = subst (λ is. puts c.args.setting.now.number (spec.roses_of_items c.args.setting.now.context.now c.args.scope.now c.args.setting.now.depth (items_view is)) c.args.nodes.now ≡ Some (c.in_ok-tops.tops, c.items.new.nodes)) c.as_slice.ensures c.in_ok-tops.ensures.gives in
    rw (seq_parts c.args.seq.now)
    (inner_gives c.close_sequence.result c.items.new.nodes c.close_sequence.new.nodes c.in_ok-tops.tops _ _ _ (sequence_is c.args.setting.now.number c.args.setting.now.depth c.args.span (spec.roses_of_items c.args.setting.now.context.now c.args.scope.now c.args.setting.now.depth (items_view c.args.seq.now.items)) c.args.nodes.now) items c.close_sequence.ensures)

pub infix-returns-in_err-left-2-clause-gives : goal.infix-returns-in_err-left-2-clause-gives
infix-returns-in_err-left-2-clause-gives t c =
    let p = err_from_is_err_and c.from_residual-in_err-left-2.result c.from_residual-in_err-left-2.ensures.1 in
    let g = c.loop-i.invariant.going in
    let x = c.index-terms-i.result in
    let at = slice_get_read c.args.terms.now _ c.loop-i.i x refl (omega (arith, c.loop-i-test.true)) c.index-terms-i.is in
    let es = exprs_from c.args.terms.now c.loop-i.i (c.loop-i.i + 1) x at refl in
    let e = c.in_err-left-2.field-0.0 in
    let m = c.args.setting.now.number in
    let part = λ (k : NodeKind) (s : Span). push m k s c.args.setting.now.depth (c.loop-i.left ∷ c.in_ok-right.right ∷ []) c.expr-in-loop-i.new.nodes in
    let place : Span = spec.joined_span c.args.span (tree.span_of (expr_view x)) in
    let reach : c.join-reach.result ≡ place = c.join-reach.ensures ∙ ap (spec.joined_span c.args.span) c.span_of.ensures in
    let kind : c.operation-kind.result ≡ spec.operation c.args.op = c.operation-kind.ensures in
    let stopped : GivesNodes {A = ℕ} (Err e) c.double.new.nodes (part (spec.operation c.args.op) place) = subst (λ k. GivesNodes {A = ℕ} (Err e) c.double.new.nodes (part k place)) kind (subst (λ s. GivesNodes {A = ℕ} (Err e) c.double.new.nodes (part c.operation-kind.result s)) reach c.in_err-left-2.ensures) in
    let there = subst (λ s. put m (spec.expr_of c.args.setting.now.context.now s c.args.setting.now.depth (expr_view x)) c.loop-i.nodes ≡ Some (c.in_ok-right.right, c.expr-in-loop-i.new.nodes)) c.loop-i.invariant.scope c.in_ok-right.ensures.gives in
    rw (p.1, p.2, g.same, es) (stops e c.double.new.nodes c.double.new.nodes (part (spec.operation c.args.op) place) _ stopped (push_none c.args.setting.now.context.now c.args.scope.now c.args.setting.now.depth c.args.op c.args.span m (expr_view x) (exprs_view (drop (c.loop-i.i + 1) c.args.terms.now)) g.left c.loop-i.left c.in_ok-right.right c.args.nodes.now c.loop-i.nodes c.expr-in-loop-i.new.nodes g.there there))

pub links-returns-in_err-last-clause-gives : goal.links-returns-in_err-last-clause-gives
links-returns-in_err-last-clause-gives t c = λ origin.
    let p = err_from_is_err_and c.from_residual.result c.from_residual.ensures.1 in
    let m = c.args.setting.now.number in
    let x = c.index-suffixes-first.result in
    let within : c.args.first + c.back.left ≤ length c.args.suffixes.now = omega (arith, c.requires.within, c.back.invariant.within) in
    let same = cut_behind c.args.setting.now.context.now c.args.scope.now c.args.setting.now.depth c.args.span origin c.args.suffixes.now c.behind-rest.result.now c.args.first c.back.left c.cut-text.result.0 c.cut-text.result.1 x c.behind-rest.ensures c.back-test.true within c.index-suffixes-first.is c.cut-text.ensures.cut in
    let rest = rest_of c.args.setting.now.context.now c.args.scope.now c.args.setting.now.depth c.args.span origin (map suffix_view (take c.cut-text.result.1 (drop c.args.first c.args.suffixes.now))) in
    let e = c.in_err-last.field-0.0 in
    let part = λ (sc : List Visible). put m (link_of c.args.setting.now.context.now sc c.args.setting.now.depth c.args.span c.cut-text.result.0 (suffix_view x) rest) c.back.nodes in
    let stopped : OpensOne (Err e) c.link.new.nodes (link_closes m c.args.setting.now.depth) (put m rest) (part c.args.scope.now) = subst (λ sc. OpensOne (Err e) c.link.new.nodes (link_closes m c.args.setting.now.depth) (put m rest) (part sc)) c.back.invariant.scope (c.in_err-last.ensures.gives rest) in
    rw (p.1, p.2, c.back.invariant.going origin, same) (stops_still e c.link.new.nodes c.link.new.nodes (link_closes m c.args.setting.now.depth) (put m rest) (put m origin) (part c.args.scope.now) _ stopped (λ n. rw n refl))

pub links-back-preserved : goal.links-back-preserved
links-back-preserved t c =
    let m = c.args.setting.now.number in
    let x = c.index-suffixes-first.result in
    let within : c.args.first + c.back.left ≤ length c.args.suffixes.now = omega (arith, c.requires.within, c.back.invariant.within) in
    record {
      within = omega (arith, c.cut-text.ensures.less, c.back.invariant.within);
      going = λ origin.
          let same = cut_behind c.args.setting.now.context.now c.args.scope.now c.args.setting.now.depth c.args.span origin c.args.suffixes.now c.behind-rest.result.now c.args.first c.back.left c.cut-text.result.0 c.cut-text.result.1 x c.behind-rest.ensures c.back-test.true within c.index-suffixes-first.is c.cut-text.ensures.cut in
          let rest = rest_of c.args.setting.now.context.now c.args.scope.now c.args.setting.now.depth c.args.span origin (map suffix_view (take c.cut-text.result.1 (drop c.args.first c.args.suffixes.now))) in
          let gave = subst (λ sc. put m (link_of c.args.setting.now.context.now sc c.args.setting.now.depth c.args.span c.cut-text.result.0 (suffix_view x) rest) c.back.nodes ≡ and_then (put m rest c.link.new.nodes) (link_closes m c.args.setting.now.depth c.in_ok-last.last)) c.back.invariant.scope (c.in_ok-last.ensures.gives rest) in
          wait_on (link_closes m c.args.setting.now.depth) c.back.links c.push.new.self c.in_ok-last.last _ _ (put m rest c.link.new.nodes) (c.back.invariant.going origin) (ap (λ r. put m r c.back.nodes) same ∙ gave) c.in_ok-push.ensures.ok;
      scope = c.in_ok-last.ensures.scope ∙ c.back.invariant.scope;
    }

pub open_arms-returns-in_err-cond-clause-gives : goal.open_arms-returns-in_err-cond-clause-gives
open_arms-returns-in_err-cond-clause-gives t c = λ last.
    let p = err_from_is_err_and c.from_residual.result c.from_residual.ensures.1 in
    let m = c.args.setting.now.number in
    let d = c.args.setting.now.depth in
    let sc = c.args.scope.now in
    let cx = c.args.setting.now.context.now in
    let a = c.a-item.result in
    let at = slice_get_read c.args.arms.now _ c.loop-a.a-index a refl (omega (arith, c.loop-a-test.true)) c.a-item.is in
    let as2 = arms_from c.args.arms.now c.loop-a.a-index (c.loop-a.a-index + 1) a at refl in
    let after = arms_view (drop (c.loop-a.a-index + 1) c.args.arms.now) in
    let x = spec.whole_of cx sc d (seq_view a.cond) in
    let y = spec.whole_of cx sc d (seq_view a.body) in
    let z = spec.rose_of_arms cx sc d c.args.span false after last in
    let place : Span = spec.arm_place c.loop-a.first c.args.span a.span in
    let e = c.in_err-cond.field-0.0 in
    let n1 = c.whole.new.nodes in
    let stopped : GivesNodes {A = ℕ} (Err e) n1 (put m x c.loop-a.nodes) = subst (λ s. GivesNodes {A = ℕ} (Err e) n1 (put m (spec.whole_of cx s d (seq_view a.cond)) c.loop-a.nodes)) c.loop-a.invariant.scope c.in_err-cond.ensures.gives in
    rw (p.1, p.2) (arm_stops e n1 n1 (arm_closes m d) c.loop-a.waiting (put m last) (put m x c.loop-a.nodes) (put m (spec.if_of c.loop-a.first place d (three x y z)) c.loop-a.nodes) _
    (c.loop-a.invariant.going last ∙ ap (λ l. and_then (put m (spec.rose_of_arms cx sc d c.args.span c.loop-a.first l last) c.loop-a.nodes) (closing (arm_closes m d) c.loop-a.waiting)) (as2 ∙ ap (λ l. tree.arm l after) (arm_parts a)))
    stopped (cond_none m d c.loop-a.first place x y z c.loop-a.nodes))

pub open_arms-returns-in_err-body-clause-gives : goal.open_arms-returns-in_err-body-clause-gives
open_arms-returns-in_err-body-clause-gives t c = λ last.
    let p = err_from_is_err_and c.from_residual-in_err-body.result c.from_residual-in_err-body.ensures.1 in
    let m = c.args.setting.now.number in
    let d = c.args.setting.now.depth in
    let sc = c.args.scope.now in
    let cx = c.args.setting.now.context.now in
    let a = c.a-item.result in
    let at = slice_get_read c.args.arms.now _ c.loop-a.a-index a refl (omega (arith, c.loop-a-test.true)) c.a-item.is in
    let as2 = arms_from c.args.arms.now c.loop-a.a-index (c.loop-a.a-index + 1) a at refl in
    let after = arms_view (drop (c.loop-a.a-index + 1) c.args.arms.now) in
    let x = spec.whole_of cx sc d (seq_view a.cond) in
    let y = spec.whole_of cx sc d (seq_view a.body) in
    let z = spec.rose_of_arms cx sc d c.args.span false after last in
    let place : Span = spec.arm_place c.loop-a.first c.args.span a.span in
    let e = c.in_err-body.field-0.0 in
    let n1 = c.whole.new.nodes in
    let n2 = c.whole-in-loop-a.new.nodes in
    let cond : put m x c.loop-a.nodes ≡ Some (c.in_ok-cond.cond, n1) = subst (λ s. put m (spec.whole_of cx s d (seq_view a.cond)) c.loop-a.nodes ≡ Some (c.in_ok-cond.cond, n1)) c.loop-a.invariant.scope c.in_ok-cond.ensures.gives in
    let stopped : GivesNodes {A = ℕ} (Err e) n2 (put m y n1) = subst (λ s. GivesNodes {A = ℕ} (Err e) n2 (put m (spec.whole_of cx s d (seq_view a.body)) n1)) (c.in_ok-cond.ensures.scope ∙ c.loop-a.invariant.scope) c.in_err-body.ensures.gives in
    rw (p.1, p.2) (arm_stops e n2 n2 (arm_closes m d) c.loop-a.waiting (put m last) (put m y n1) (put m (spec.if_of c.loop-a.first place d (three x y z)) c.loop-a.nodes) _
    (c.loop-a.invariant.going last ∙ ap (λ l. and_then (put m (spec.rose_of_arms cx sc d c.args.span c.loop-a.first l last) c.loop-a.nodes) (closing (arm_closes m d) c.loop-a.waiting)) (as2 ∙ ap (λ l. tree.arm l after) (arm_parts a)))
    stopped (body_none m d c.loop-a.first place x y z c.in_ok-cond.cond c.loop-a.nodes n1 cond))

pub exprs-loop-x-preserved : goal.exprs-loop-x-preserved
exprs-loop-x-preserved t c =
    let m = c.args.setting.now.number in
    let d = c.args.setting.now.depth in
    let sc = c.args.scope.now in
    let cx = c.args.setting.now.context.now in
    let x = c.x-item.result in
    let at = slice_get_read c.args.xs.now _ c.loop-x.x-index x refl (omega (arith, c.loop-x-test.true)) c.x-item.is in
    let es = exprs_from c.args.xs.now c.loop-x.x-index (c.loop-x.x-index + 1) x at refl in
    let n1 = c.expr.new.nodes in
    let gave : put m (spec.expr_of cx sc d (expr_view x)) c.loop-x.nodes ≡ Some (c.in_ok-top.top, n1) = subst (λ s. put m (spec.expr_of cx s d (expr_view x)) c.loop-x.nodes ≡ Some (c.in_ok-top.top, n1)) c.loop-x.invariant.scope c.in_ok-top.ensures.gives in
    record {
      going = c.loop-x.invariant.going ∙ ap (λ l. behind_tops c.loop-x.tops (puts m (spec.roses_of_exprs cx sc d l) c.loop-x.nodes)) es ∙ behind_more m (spec.expr_of cx sc d (expr_view x)) (spec.roses_of_exprs cx sc d (exprs_view (drop (c.loop-x.x-index + 1) c.args.xs.now))) c.loop-x.tops c.push.new.self c.in_ok-top.top c.loop-x.nodes n1 gave c.in_ok-push.ensures.ok;
      scope = c.in_ok-top.ensures.scope ∙ c.loop-x.invariant.scope;
    }

pub block-returns-in_err-waiting-in-If-clause-gives : goal.block-returns-in_err-waiting-in-If-clause-gives
block-returns-in_err-waiting-in-If-clause-gives t c =
    let p = err_from_is_err_and c.from_residual.result c.from_residual.ensures.1 in
    let m = c.args.setting.now.number in
    let d = c.args.setting.now.depth in
    let last = spec.other_of c.args.setting.now.context.now c.args.scope.now d c.in-If.span (other_view c.in-If.other) in
    let n1 = c.open_arms.new.nodes in
    rw (p.1, p.2, c.in-If.is, view_if c.in-If.arms c.in-If.other c.in-If.span, sym c.as_slice.ensures) (opens_stop c.in_err-waiting-in-If.field-0.0 n1 n1 (arm_closes m d) (put m last) _ (c.in_err-waiting-in-If.ensures.gives last))

pub exprs-loop-x-init : goal.exprs-loop-x-init
exprs-loop-x-init t c =
    let all = puts c.args.setting.now.number (spec.roses_of_exprs c.args.setting.now.context.now c.args.scope.now c.args.setting.now.depth (exprs_view c.args.xs.now)) c.args.nodes.now in
    record {
      going = sym (behind_none all) ∙ ap (λ l. behind_tops l all) (sym c.new-tops.ensures);
      scope = refl;
    }

pub block-returns-in_err-last-in-If-clause-gives : goal.block-returns-in_err-last-in-If-clause-gives
block-returns-in_err-last-in-If-clause-gives t c =
    let p = err_from_is_err_and c.from_residual-in_err-last-in-If.result c.from_residual-in_err-last-in-If.ensures.1 in
    let m = c.args.setting.now.number in
    let d = c.args.setting.now.depth in
    let sc = c.args.scope.now in
    let cx = c.args.setting.now.context.now in
    let last = λ (s : List Visible). spec.other_of cx s d c.in-If.span (other_view c.in-If.other) in
    let n1 = c.open_arms.new.nodes in
    let n2 = c.otherwise.new.nodes in
    let e = c.in_err-last-in-If.field-0.0 in
    let stopped : GivesNodes {A = ℕ} (Err e) n2 (put m (last sc) n1) = subst (λ s. GivesNodes {A = ℕ} (Err e) n2 (put m (last s) n1)) c.in_ok-waiting-in-If.ensures.scope c.in_err-last-in-If.ensures.gives in
    rw (p.1, p.2, c.in-If.is, view_if c.in-If.arms c.in-If.other c.in-If.span, sym c.as_slice.ensures) (inner_stops e n2 n2 (put m (last sc) n1) (closing (arm_closes m d) c.in_ok-waiting-in-If.waiting) _ (c.in_ok-waiting-in-If.ensures.gives (last sc)) stopped)

pub block-returns-in_ok-last-in-If-clause-gives : goal.block-returns-in_ok-last-in-If-clause-gives
block-returns-in_ok-last-in-If-clause-gives t c =
    let m = c.args.setting.now.number in
    let d = c.args.setting.now.depth in
    let sc = c.args.scope.now in
    let cx = c.args.setting.now.context.now in
    let last = λ (s : List Visible). spec.other_of cx s d c.in-If.span (other_view c.in-If.other) in
    let n1 = c.open_arms.new.nodes in
    let n2 = c.otherwise.new.nodes in
    let there : put m (last sc) n1 ≡ Some (c.in_ok-last-in-If.last, n2) = subst (λ s. put m (last s) n1 ≡ Some (c.in_ok-last-in-If.last, n2)) c.in_ok-waiting-in-If.ensures.scope c.in_ok-last-in-If.ensures.gives in
    rw (c.in-If.is, view_if c.in-If.arms c.in-If.other c.in-If.span, sym c.as_slice.ensures) (inner_gives c.close_arms.result n2 c.close_arms.new.nodes c.in_ok-last-in-If.last (put m (last sc) n1) (closing (arm_closes m d) c.in_ok-waiting-in-If.waiting) _ (c.in_ok-waiting-in-If.ensures.gives (last sc)) there c.close_arms.ensures)

pub block-returns-in_err-test-in-While-clause-gives : goal.block-returns-in_err-test-in-While-clause-gives
block-returns-in_err-test-in-While-clause-gives t c =
    let p = err_from_is_err_and c.from_residual-in_err-test-in-While.result c.from_residual-in_err-test-in-While.ensures.1 in
    let m = c.args.setting.now.number in
    let d = c.args.setting.now.depth in
    let sc = c.args.scope.now in
    let cx = c.args.setting.now.context.now in
    let n1 = c.whole.new.nodes in
    rw (p.1, p.2, c.in-While.is, view_while c.in-While.cond c.in-While.body c.in-While.span, sym c.deref-in-While.ensures) (stops c.in_err-test-in-While.field-0.0 n1 n1 (put m (spec.whole_of cx sc d (seq_view c.deref-in-While.result.now)) c.args.nodes.now) _ c.in_err-test-in-While.ensures.gives (λ h. rw h refl))

pub sequence-returns-in_err-tops-clause-gives : goal.sequence-returns-in_err-tops-clause-gives
sequence-returns-in_err-tops-clause-gives t c =
    let p = err_from_is_err_and c.from_residual.result c.from_residual.ensures.1 in
    let m = c.args.setting.now.number in
    let d = c.args.setting.now.depth in
    let sc = c.args.scope.now in
    let cx = c.args.setting.now.context.now in
    let items = λ (l : List Item). spec.roses_of_items cx sc d (items_view l) in
    let is = c.args.seq.now.items in
    let e = c.in_err-tops.field-0.0 in
    let n1 = c.items.new.nodes in
    let stopped : GivesNodes {A = List ℕ} (Err e) n1 (puts m (items is) c.args.nodes.now) = subst (λ l. GivesNodes {A = List ℕ} (Err e) n1 (puts m (items l) c.args.nodes.now)) c.as_slice.ensures c.in_err-tops.ensures.gives in
    rw (p.1, p.2, seq_parts c.args.seq.now) (inner_stops e n1 n1 (puts m (items is) c.args.nodes.now) (seq_closes m d c.args.span) _ (sequence_is m d c.args.span (items is) c.args.nodes.now) stopped)

pub infix-loop-i-init : goal.infix-loop-i-init
infix-loop-i-init t c =
    let m = c.args.setting.now.number in
    let d = c.args.setting.now.depth in
    let sc = c.args.scope.now in
    let cx = c.args.setting.now.context.now in
    let x = c.in-Some.first.now in
    record {
      going = record {
        left = spec.expr_of cx sc d (expr_view x);
        there = c.in_ok-left.ensures.gives;
        same = ap (λ l. put m (spec.infix_of cx sc d c.args.op c.args.span l) c.args.nodes.now) (exprs_from c.args.terms.now 0 1 x (sym c.in-Some.ensures.value) refl);
      };
      scope = c.in_ok-left.ensures.scope;
    }

pub infix-loop-i-preserved : goal.infix-loop-i-preserved
infix-loop-i-preserved t c =
    let m = c.args.setting.now.number in
    let d = c.args.setting.now.depth in
    let sc = c.args.scope.now in
    let cx = c.args.setting.now.context.now in
    let g = c.loop-i.invariant.going in
    let x = c.index-terms-i.result in
    let at = slice_get_read c.args.terms.now _ c.loop-i.i x refl (omega (arith, c.loop-i-test.true)) c.index-terms-i.is in
    let es = exprs_from c.args.terms.now c.loop-i.i (c.loop-i.i + 1) x at refl in
    let n1 = c.expr-in-loop-i.new.nodes in
    let n2 = c.double.new.nodes in
    let part = λ (k : NodeKind) (s : Span). push m k s d (c.loop-i.left ∷ c.in_ok-right.right ∷ []) n1 in
    let place : Span = spec.joined_span c.args.span (tree.span_of (expr_view x)) in
    let reach : c.join-reach.result ≡ place = c.join-reach.ensures ∙ ap (spec.joined_span c.args.span) c.span_of.ensures in
    let made : part (spec.operation c.args.op) place ≡ Some (c.in_ok-left-2.left, n2) = subst (λ k. part k place ≡ Some (c.in_ok-left-2.left, n2)) c.operation-kind.ensures (subst (λ s. part c.operation-kind.result s ≡ Some (c.in_ok-left-2.left, n2)) reach c.in_ok-left-2.ensures) in
    let there : put m (spec.expr_of cx sc d (expr_view x)) c.loop-i.nodes ≡ Some (c.in_ok-right.right, n1) = subst (λ s. put m (spec.expr_of cx s d (expr_view x)) c.loop-i.nodes ≡ Some (c.in_ok-right.right, n1)) c.loop-i.invariant.scope c.in_ok-right.ensures.gives in
    record {
      going = record {
        left = rose (spec.operation c.args.op) place d (two g.left (spec.expr_of cx sc d (expr_view x)));
        there = rw (g.there, there) made;
        same = g.same ∙ ap (λ l. put m (spec.operands_of cx sc d c.args.op c.args.span g.left l) c.args.nodes.now) es;
      };
      scope = c.in_ok-right.ensures.scope ∙ c.loop-i.invariant.scope;
    }

pub block-returns-in_err-turn-in-While-clause-gives : goal.block-returns-in_err-turn-in-While-clause-gives
block-returns-in_err-turn-in-While-clause-gives t c =
    let p = err_from_is_err_and c.from_residual-in_err-turn-in-While.result c.from_residual-in_err-turn-in-While.ensures.1 in
    let m = c.args.setting.now.number in
    let d = c.args.setting.now.depth in
    let sc = c.args.scope.now in
    let cx = c.args.setting.now.context.now in
    let turn = λ (s : List Visible). spec.whole_of cx s d (seq_view c.deref-in-While-2.result.now) in
    let n1 = c.whole.new.nodes in
    let n2 = c.whole-in-While.new.nodes in
    let e = c.in_err-turn-in-While.field-0.0 in
    let stopped : GivesNodes {A = ℕ} (Err e) n2 (put m (turn sc) n1) = subst (λ s. GivesNodes {A = ℕ} (Err e) n2 (put m (turn s) n1)) c.in_ok-test-in-While.ensures.scope c.in_err-turn-in-While.ensures.gives in
    rw (p.1, p.2, c.in-While.is, view_while c.in-While.cond c.in-While.body c.in-While.span, sym c.deref-in-While.ensures, sym c.deref-in-While-2.ensures) (stops e n2 n2 (put m (turn sc) n1) _ stopped (λ h. rw (c.in_ok-test-in-While.ensures.gives, h) refl))

pub block-returns-in_ok-turn-in-While-clause-gives : goal.block-returns-in_ok-turn-in-While-clause-gives
block-returns-in_ok-turn-in-While-clause-gives t c =
    let m = c.args.setting.now.number in
    let d = c.args.setting.now.depth in
    let sc = c.args.scope.now in
    let cx = c.args.setting.now.context.now in
    let turn = λ (s : List Visible). spec.whole_of cx s d (seq_view c.deref-in-While-2.result.now) in
    let n1 = c.whole.new.nodes in
    let there : put m (turn sc) n1 ≡ Some (c.in_ok-turn-in-While.turn, c.whole-in-While.new.nodes) = subst (λ s. put m (turn s) n1 ≡ Some (c.in_ok-turn-in-While.turn, c.whole-in-While.new.nodes)) c.in_ok-test-in-While.ensures.scope c.in_ok-turn-in-While.ensures.gives in
    rw (c.in-While.is, view_while c.in-While.cond c.in-While.body c.in-While.span, sym c.deref-in-While.ensures, sym c.deref-in-While-2.ensures, c.in_ok-test-in-While.ensures.gives, there) c.double.ensures

pub links-returns-clause-gives : goal.links-returns-clause-gives
links-returns-clause-gives t c = λ origin.
    let m = c.args.setting.now.number in
    let d = c.args.setting.now.depth in
    let sc = c.args.scope.now in
    let cx = c.args.setting.now.context.now in
    let none : c.back.left ≡ 0 = omega (arith, c.back-test.false) in
    let want = λ (k : ℕ). put m (rest_of cx sc d c.args.span origin (map suffix_view (take k (drop c.args.first c.args.suffixes.now)))) c.back.nodes in
    c.back.invariant.going origin ∙ ap (λ k. and_then (want k) (closing (link_closes m d) c.back.links)) none

pub items-loop-x-init : goal.items-loop-x-init
items-loop-x-init t c =
    let all = puts c.args.setting.now.number (spec.roses_of_items c.args.setting.now.context.now c.args.scope.now c.args.setting.now.depth (items_view c.args.xs.now)) c.args.nodes.now in
    record {
      going = sym (behind_none all) ∙ ap (λ l. behind_tops l all) (sym c.new-tops.ensures);
      scope = take_whole c.args.scope.now;
    }

pub items-loop-x-preserved : goal.items-loop-x-preserved
items-loop-x-preserved t c =
    let m = c.args.setting.now.number in
    let d = c.args.setting.now.depth in
    let cx = c.args.setting.now.context.now in
    let sc = c.loop-x.scope in
    let x = c.x-item.result in
    let at = slice_get_read c.args.xs.now _ c.loop-x.x-index x refl (omega (arith, c.loop-x-test.true)) c.x-item.is in
    let is = items_from c.args.xs.now c.loop-x.x-index (c.loop-x.x-index + 1) x at refl in
    let rest = λ (s : List Visible). spec.roses_of_items cx s d (items_view (drop (c.loop-x.x-index + 1) c.args.xs.now)) in
    let n1 = c.item.new.nodes in
    record {
      going = c.loop-x.invariant.going ∙ ap (λ l. behind_tops c.loop-x.tops (puts m (spec.roses_of_items cx sc d l) c.loop-x.nodes)) is ∙ behind_more m (spec.item_of cx sc d (item_view x)) (rest (scope_after cx sc (item_view x))) c.loop-x.tops c.push.new.self c.in_ok-top.top c.loop-x.nodes n1 c.in_ok-top.ensures.gives c.in_ok-push.ensures.ok ∙ ap (λ s. behind_tops c.push.new.self (puts m (rest s) n1)) (sym c.in_ok-top.ensures.scope);
      scope = subst (λ s. take (length c.args.scope.now) s ≡ c.args.scope.now) (sym c.in_ok-top.ensures.scope) (scope_kept cx sc c.args.scope.now (item_view x) c.loop-x.invariant.scope);
    }

pub expr-returns-in-Infix-clause-scope : goal.expr-returns-in-Infix-clause-scope
expr-returns-in-Infix-clause-scope t c = c.infix.ensures.scope

pub expr-returns-in-Chain-clause-scope : goal.expr-returns-in-Chain-clause-scope
expr-returns-in-Chain-clause-scope t c = c.chain.ensures.scope

pub expr-returns-in-Group-clause-scope : goal.expr-returns-in-Group-clause-scope
expr-returns-in-Group-clause-scope t c = c.block.ensures.scope

pub expr-returns-in_ok-operand-in-Not-clause-scope : goal.expr-returns-in_ok-operand-in-Not-clause-scope
expr-returns-in_ok-operand-in-Not-clause-scope t c = on_ok c.single.result c.in_ok-operand-in-Not.ensures.scope

pub expr-returns-in_ok-value-in-Assign-clause-scope : goal.expr-returns-in_ok-value-in-Assign-clause-scope
expr-returns-in_ok-value-in-Assign-clause-scope t c = on_ok_weaker c.store.result (λ h. h ∙ c.in_ok-value-in-Assign.ensures.scope) c.store.ensures.scope

pub chain-returns-clause-scope : goal.chain-returns-clause-scope
chain-returns-clause-scope t c = on_ok c.close_links.result (c.in_ok-origin.ensures.scope ∙ c.in_ok-opened.ensures.scope)

pub store-returns-clause-scope : goal.store-returns-clause-scope
store-returns-clause-scope t c = on_ok c.close_write.result (c.in_ok-origin.ensures.scope ∙ c.in_ok-opened.ensures.scope)

pub block-returns-in_ok-turn-in-While-clause-scope : goal.block-returns-in_ok-turn-in-While-clause-scope
block-returns-in_ok-turn-in-While-clause-scope t c = on_ok c.double.result (c.in_ok-turn-in-While.ensures.scope ∙ c.in_ok-test-in-While.ensures.scope)

pub block-returns-in_ok-inner-in-Recover-clause-scope : goal.block-returns-in_ok-inner-in-Recover-clause-scope
block-returns-in_ok-inner-in-Recover-clause-scope t c = on_ok c.single.result c.in_ok-inner-in-Recover.ensures.scope

pub block-returns-in_ok-last-in-If-clause-scope : goal.block-returns-in_ok-last-in-If-clause-scope
block-returns-in_ok-last-in-If-clause-scope t c = on_ok c.close_arms.result (c.in_ok-last-in-If.ensures.scope ∙ c.in_ok-waiting-in-If.ensures.scope)

pub first_args-returns-in_ok-children-in-Made-clause-scope : goal.first_args-returns-in_ok-children-in-Made-clause-scope
first_args-returns-in_ok-children-in-Made-clause-scope t c = on_ok c.several.result c.in_ok-children-in-Made.ensures.scope

pub first_args-returns-in_ok-children-in-OnThis-clause-scope : goal.first_args-returns-in_ok-children-in-OnThis-clause-scope
first_args-returns-in_ok-children-in-OnThis-clause-scope t c = on_ok c.call_this.result c.in_ok-children-in-OnThis.ensures.scope

pub store_alone-returns-in_ok-last-in-Number-clause-scope : goal.store_alone-returns-in_ok-last-in-Number-clause-scope
store_alone-returns-in_ok-last-in-Number-clause-scope t c = on_ok c.double.result c.in_ok-last-in-Number.ensures.scope

pub exprs-returns-clause-gives : goal.exprs-returns-clause-gives
exprs-returns-clause-gives t c =
    let m = c.args.setting.now.number in
    let d = c.args.setting.now.depth in
    let sc = c.args.scope.now in
    let cx = c.args.setting.now.context.now in
    let none = drop_all c.loop-x.x-index c.args.xs.now c.loop-x-test.false in
    c.loop-x.invariant.going ∙ ap (λ l. behind_tops c.loop-x.tops (puts m (spec.roses_of_exprs cx sc d (exprs_view l)) c.loop-x.nodes)) none ∙ ap (λ l. Some (l, c.loop-x.nodes)) (append-nil c.loop-x.tops)

pub items-returns-clause-gives : goal.items-returns-clause-gives
items-returns-clause-gives t c =
    let m = c.args.setting.now.number in
    let d = c.args.setting.now.depth in
    let cx = c.args.setting.now.context.now in
    let none = drop_all c.loop-x.x-index c.args.xs.now c.loop-x-test.false in
    c.loop-x.invariant.going ∙ ap (λ l. behind_tops c.loop-x.tops (puts m (spec.roses_of_items cx c.loop-x.scope d (items_view l)) c.loop-x.nodes)) none ∙ ap (λ l. Some (l, c.loop-x.nodes)) (append-nil c.loop-x.tops)

pub exprs-returns-in_err-top-clause-gives : goal.exprs-returns-in_err-top-clause-gives
exprs-returns-in_err-top-clause-gives t c =
    let p = err_from_is_err_and c.from_residual.result c.from_residual.ensures.1 in
    let m = c.args.setting.now.number in
    let d = c.args.setting.now.depth in
    let sc = c.args.scope.now in
    let cx = c.args.setting.now.context.now in
    let x = c.x-item.result in
    let at = slice_get_read c.args.xs.now _ c.loop-x.x-index x refl (omega (arith, c.loop-x-test.true)) c.x-item.is in
    let es = exprs_from c.args.xs.now c.loop-x.x-index (c.loop-x.x-index + 1) x at refl in
    let part = λ (s : List Visible). put m (spec.expr_of cx s d (expr_view x)) c.loop-x.nodes in
    let e = c.in_err-top.field-0.0 in
    let n1 = c.expr.new.nodes in
    let stopped : GivesNodes {A = ℕ} (Err e) n1 (part sc) = subst (λ s. GivesNodes {A = ℕ} (Err e) n1 (part s)) c.loop-x.invariant.scope c.in_err-top.ensures.gives in
    rw (p.1, p.2, c.loop-x.invariant.going, es) (stops e n1 n1 (part sc) _ stopped (λ h. rw h refl))

pub items-returns-in_err-top-clause-gives : goal.items-returns-in_err-top-clause-gives
items-returns-in_err-top-clause-gives t c =
    let p = err_from_is_err_and c.from_residual.result c.from_residual.ensures.1 in
    let m = c.args.setting.now.number in
    let d = c.args.setting.now.depth in
    let cx = c.args.setting.now.context.now in
    let x = c.x-item.result in
    let at = slice_get_read c.args.xs.now _ c.loop-x.x-index x refl (omega (arith, c.loop-x-test.true)) c.x-item.is in
    let es = items_from c.args.xs.now c.loop-x.x-index (c.loop-x.x-index + 1) x at refl in
    let part = put m (spec.item_of cx c.loop-x.scope d (item_view x)) c.loop-x.nodes in
    let n1 = c.item.new.nodes in
    rw (p.1, p.2, c.loop-x.invariant.going, es) (stops c.in_err-top.field-0.0 n1 n1 part _ c.in_err-top.ensures.gives (λ h. rw h refl))

pub expr-returns-in_ok-operand-in-Not-clause-gives : goal.expr-returns-in_ok-operand-in-Not-clause-gives
expr-returns-in_ok-operand-in-Not-clause-gives t c = rw (c.in-Not.is, view_not c.in-Not.inner c.in-Not.span, sym c.deref.ensures, c.in_ok-operand-in-Not.ensures.gives) c.single.ensures

pub expr-returns-in_err-operand-in-Not-clause-gives : goal.expr-returns-in_err-operand-in-Not-clause-gives
expr-returns-in_err-operand-in-Not-clause-gives t c =
    let p = err_from_is_err_and c.from_residual.result c.from_residual.ensures.1 in
    let n1 = c.expr.new.nodes in
    rw (p.1, p.2, c.in-Not.is, view_not c.in-Not.inner c.in-Not.span, sym c.deref.ensures) (stops c.in_err-operand-in-Not.field-0.0 n1 n1 (put c.args.setting.now.number (spec.expr_of c.args.setting.now.context.now c.args.scope.now c.args.setting.now.depth (expr_view c.deref.result.now)) c.args.nodes.now) _ c.in_err-operand-in-Not.ensures.gives (λ h. rw h refl))

pub expr-returns-in-Infix-clause-gives : goal.expr-returns-in-Infix-clause-gives
expr-returns-in-Infix-clause-gives t c = rw (c.in-Infix.is, view_infix c.in-Infix.op c.in-Infix.terms c.in-Infix.span, sym c.as_slice-in-Infix.ensures) c.infix.ensures.gives

pub infix-returns-clause-gives : goal.infix-returns-clause-gives
infix-returns-clause-gives t c =
    let m = c.args.setting.now.number in
    let d = c.args.setting.now.depth in
    let sc = c.args.scope.now in
    let cx = c.args.setting.now.context.now in
    let g = c.loop-i.invariant.going in
    let none = drop_all c.loop-i.i c.args.terms.now c.loop-i-test.false in
    g.same ∙ ap (λ l. put m (spec.operands_of cx sc d c.args.op c.args.span g.left (exprs_view l)) c.args.nodes.now) none ∙ g.there

pub open_arms-returns-clause-gives : goal.open_arms-returns-clause-gives
open_arms-returns-clause-gives t c = λ last.
    let m = c.args.setting.now.number in
    let d = c.args.setting.now.depth in
    let sc = c.args.scope.now in
    let cx = c.args.setting.now.context.now in
    let none = drop_all c.loop-a.a-index c.args.arms.now c.loop-a-test.false in
    c.loop-a.invariant.going last ∙ ap (λ l. and_then (put m (spec.rose_of_arms cx sc d c.args.span c.loop-a.first (arms_view l) last) c.loop-a.nodes) (closing (arm_closes m d) c.loop-a.waiting)) none

pub first_args-returns-in_ok-children-in-Made-clause-gives : goal.first_args-returns-in_ok-children-in-Made-clause-gives
first_args-returns-in_ok-children-in-Made-clause-gives t c =
    let gave = subst (λ s. GivesNodes c.several.result c.several.new.nodes (push c.args.setting.now.number c.in-Made.kind s c.args.setting.now.depth c.in_ok-children-in-Made.children c.exprs.new.nodes)) c.join-in-Made.ensures c.several.ensures in
    rw (c.in-Made.is, c.in-Args.is, view_args c.in-Args.args c.in-Args.end, sym c.as_slice.ensures, c.in_ok-children-in-Made.ensures.gives) gave

pub first_args-returns-in_err-children-in-Made-clause-gives : goal.first_args-returns-in_err-children-in-Made-clause-gives
first_args-returns-in_err-children-in-Made-clause-gives t c =
    let p = err_from_is_err_and c.from_residual.result c.from_residual.ensures.1 in
    let n1 = c.exprs.new.nodes in
    rw (p.1, p.2, c.in-Made.is, c.in-Args.is, view_args c.in-Args.args c.in-Args.end, sym c.as_slice.ensures) (stops c.in_err-children-in-Made.field-0.0 n1 n1 (puts c.args.setting.now.number (spec.roses_of_exprs c.args.setting.now.context.now c.args.scope.now c.args.setting.now.depth (exprs_view c.as_slice.result.now)) c.args.nodes.now) _ c.in_err-children-in-Made.ensures.gives (λ h. rw h refl))
