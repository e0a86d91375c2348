use Rattle.std.proofs.{Common.{◌≡◌, true, false, Ok, refl, inl, inr, ◌<◌, ◌≤◌, [], ◌∷◌, ◌++◌, length, drop, map, sym, ap, ◌∙◌, arith, length-drop}, lemmas.List.map_push, lemmas.Result.err_from_is_err_and}
use Rattle.pc_tree.specs.{View.{expr_view, item_view, suffix_view, arm_view, seq_view}, Parts.{exprs_of, seq_span}}
use Rattle.pc_tree.specs.Tree as tree
use Rattle.pc_tree.proofs.Views.{view_arm}
use Rattle.pc_token.specs.declared.signs.Sign.TheVariants as sign
use Rattle.pc_token.specs.Words.{is_sign}
use Rattle.pc_grammar.specs.Spells as spells
use Rattle.pc_grammar.specs.Reading as reading
use Rattle.pc_expr.specs.Onto.{some_args}
use Rattle.pc_expr.proofs.{Parts.{seq_spans, arm_made, stops_first, reads_becomes, gives_made, args_by_parts, not_closed}, Loops.{loop_starts, loop_goes_on, loop_ends, stops_here, turn_reads, turn_stops}}
use Rattle.pc_expr.proofs.rules.+rules.Goals as goal

pub some_args-more-init : goal.some_args-more-init
unfolding some_args
some_args-more-init t c = record {
  past = omega arith;
  there = c.requires;
  reads = inl (ap (map expr_view) c.new-args.ensures, refl);
}

pub some_args-returns-in_err-one-clause-gives : goal.some_args-returns-in_err-one-clause-gives
some_args-returns-in_err-one-clause-gives t c =
    let p = err_from_is_err_and c.from_residual.result c.from_residual.ensures.1 in
    let l = c.more in
    rw (p.1, p.2) (turn_stops _ _ _ _ c.args.tokens.now (drop l.to c.args.tokens.now) c.in_err-one.field-0.0 l.invariant.reads c.in_err-one.ensures.gives)

pub some_args-more-preserved : goal.some_args-more-preserved
some_args-more-preserved t c =
    let l = c.more in
    let x = c.in_ok-one.one in
    let views = ap (map expr_view) c.in_ok-push_within.ensures.ok ∙ map_push expr_view l.args x in
    let less : length (drop c.in_ok-one.after c.args.tokens.now) < length (drop l.to c.args.tokens.now) = simp length-drop (omega (arith, l.invariant.there.within, c.in_ok-one.ensures.moves.past)) in
    let some : 0 < length (drop c.in_ok-one.after c.args.tokens.now) = simp length-drop (omega (arith, c.in_ok-one.ensures.moves.there.within)) in
    let read = turn_reads _ _ _ (map expr_view l.args) (drop l.to c.args.tokens.now) (drop c.in_ok-one.after c.args.tokens.now) (expr_view x) l.invariant.reads c.in_ok-one.ensures.gives less in
    let begins : length (drop c.in-Some.next c.args.tokens.now) ≤ length (drop c.in_ok-one.after c.args.tokens.now) = simp length-drop (omega (arith, c.in-Some.ensures.there.0)) in
    record {
      past = omega (arith, l.invariant.past, c.in_ok-one.ensures.moves.past, c.in-Some.ensures.there.0);
      there = c.in-Some.ensures.there.1;
      reads = rw views (inr (drop c.in_ok-one.after c.args.tokens.now, read, sym c.in-Some.ensures.value, some, begins));
    }

pub some_args-returns-in-None-clause-gives : goal.some_args-returns-in-None-clause-gives
some_args-returns-in-None-clause-gives t c =
    let l = c.more in
    let x = c.in_ok-one.one in
    let views = ap (map expr_view) c.in_ok-push_within.ensures.ok ∙ map_push expr_view l.args x in
    let less : length (drop c.in_ok-one.after c.args.tokens.now) < length (drop l.to c.args.tokens.now) = simp length-drop (omega (arith, l.invariant.there.within, c.in_ok-one.ensures.moves.past)) in
    let some : 0 < length (drop c.in_ok-one.after c.args.tokens.now) = simp length-drop (omega (arith, c.in_ok-one.ensures.moves.there.within)) in
    let read = turn_reads _ _ _ (map expr_view l.args) (drop l.to c.args.tokens.now) (drop c.in_ok-one.after c.args.tokens.now) (expr_view x) l.invariant.reads c.in_ok-one.ensures.gives less in
    rw views (loop_ends _ _ _ (map expr_view l.args ++ expr_view x ∷ []) (drop c.in_ok-one.after c.args.tokens.now) read (sym c.in-None.ensures.value) some)

pub more_arms-more-init : goal.more_arms-more-init
more_arms-more-init t c = record {
  past = omega arith;
  there = c.requires;
  reads = loop_starts _ _ (map arm_view c.args.so_far) (drop c.args.at c.args.tokens.now);
}

pub more_arms-returns-in_err-one-clause-gives : goal.more_arms-returns-in_err-one-clause-gives
more_arms-returns-in_err-one-clause-gives t c =
    let p = err_from_is_err_and c.from_residual.result c.from_residual.ensures.1 in
    let l = c.more in
    let some : 0 < length (drop l.to c.args.tokens.now) = simp length-drop (omega (arith, l.invariant.there.within)) in
    rw (p.1, p.2) (stops_here _ _ _ _ c.args.tokens.now (drop l.to c.args.tokens.now) (drop c.in-Some.next c.args.tokens.now) c.in_err-one.field-0.0 l.invariant.reads (sym c.in-Some.ensures.value) c.in_err-one.ensures.gives some)

pub more_arms-more-preserved : goal.more_arms-more-preserved
more_arms-more-preserved t c =
    let l = c.more in
    let x = c.in_ok-one.one in
    let views = ap (map arm_view) c.in_ok-push.ensures.ok ∙ map_push arm_view l.arms x in
    let less : length (drop c.in_ok-one.after c.args.tokens.now) < length (drop l.to c.args.tokens.now) = simp length-drop (omega (arith, l.invariant.there.within, c.in-Some.ensures.there.0, c.in_ok-one.ensures.moves.past)) in
    record {
      past = omega (arith, l.invariant.past, c.in-Some.ensures.there.0, c.in_ok-one.ensures.moves.past);
      there = c.in_ok-one.ensures.moves.there;
      reads = rw views (loop_goes_on _ _ _ (map arm_view l.arms) (drop l.to c.args.tokens.now) (drop c.in-Some.next c.args.tokens.now) (drop c.in_ok-one.after c.args.tokens.now) (arm_view x) l.invariant.reads (sym c.in-Some.ensures.value) c.in_ok-one.ensures.gives less);
    }

pub more_arms-returns-clause-gives : goal.more_arms-returns-clause-gives
more_arms-returns-clause-gives t c =
    let l = c.more in
    let some : 0 < length (drop l.to c.args.tokens.now) = simp length-drop (omega (arith, l.invariant.there.within)) in
    loop_ends _ _ _ (map arm_view l.arms) (drop l.to c.args.tokens.now) l.invariant.reads (sym c.in_default.ensures.value) some

pub items-more-init : goal.items-more-init
items-more-init t c = record {
  past = omega arith;
  there = c.requires;
  reads = inl (ap (map item_view) c.new-items.ensures, refl);
}

pub items-returns-in_err-one-clause-gives : goal.items-returns-in_err-one-clause-gives
items-returns-in_err-one-clause-gives t c =
    let p = err_from_is_err_and c.from_residual.result c.from_residual.ensures.1 in
    let l = c.more in
    rw (p.1, p.2) (turn_stops _ _ _ _ c.args.tokens.now (drop l.to c.args.tokens.now) c.in_err-one.field-0.0 l.invariant.reads c.in_err-one.ensures.gives)

pub items-more-preserved : goal.items-more-preserved
items-more-preserved t c =
    let l = c.more in
    let x = c.in_ok-one.one in
    let views = ap (map item_view) c.in_ok-push_within.ensures.ok ∙ map_push item_view l.items x in
    let less : length (drop c.in_ok-one.after c.args.tokens.now) < length (drop l.to c.args.tokens.now) = simp length-drop (omega (arith, l.invariant.there.within, c.in_ok-one.ensures.moves.past)) in
    let some : 0 < length (drop c.in_ok-one.after c.args.tokens.now) = simp length-drop (omega (arith, c.in_ok-one.ensures.moves.there.within)) in
    let read = turn_reads _ _ _ (map item_view l.items) (drop l.to c.args.tokens.now) (drop c.in_ok-one.after c.args.tokens.now) (item_view x) l.invariant.reads c.in_ok-one.ensures.gives less in
    let begins : length (drop c.in-Some.next c.args.tokens.now) ≤ length (drop c.in_ok-one.after c.args.tokens.now) = simp length-drop (omega (arith, c.in-Some.ensures.there.0)) in
    record {
      past = omega (arith, l.invariant.past, c.in_ok-one.ensures.moves.past, c.in-Some.ensures.there.0);
      there = c.in-Some.ensures.there.1;
      reads = rw views (inr (drop c.in_ok-one.after c.args.tokens.now, read, sym c.in-Some.ensures.value, some, begins));
    }

pub items-returns-in-None-clause-gives : goal.items-returns-in-None-clause-gives
items-returns-in-None-clause-gives t c =
    let l = c.more in
    let x = c.in_ok-one.one in
    let views = ap (map item_view) c.in_ok-push_within.ensures.ok ∙ map_push item_view l.items x in
    let less : length (drop c.in_ok-one.after c.args.tokens.now) < length (drop l.to c.args.tokens.now) = simp length-drop (omega (arith, l.invariant.there.within, c.in_ok-one.ensures.moves.past)) in
    let some : 0 < length (drop c.in_ok-one.after c.args.tokens.now) = simp length-drop (omega (arith, c.in_ok-one.ensures.moves.there.within)) in
    let read = turn_reads _ _ _ (map item_view l.items) (drop l.to c.args.tokens.now) (drop c.in_ok-one.after c.args.tokens.now) (item_view x) l.invariant.reads c.in_ok-one.ensures.gives less in
    rw views (loop_ends _ _ _ (map item_view l.items ++ item_view x ∷ []) (drop c.in_ok-one.after c.args.tokens.now) read (sym c.in-None.ensures.value) some)

pub more_suffixes-more-init : goal.more_suffixes-more-init
more_suffixes-more-init t c = record {
  past = omega arith;
  there = c.requires;
  reads = loop_starts _ _ (map suffix_view c.args.so_far) (drop c.args.at c.args.tokens.now);
}

pub more_suffixes-returns-in_err-one-clause-gives : goal.more_suffixes-returns-in_err-one-clause-gives
more_suffixes-returns-in_err-one-clause-gives t c =
    let p = err_from_is_err_and c.from_residual.result c.from_residual.ensures.1 in
    let l = c.more in
    let some : 0 < length (drop l.to c.args.tokens.now) = simp length-drop (omega (arith, l.invariant.there.within)) in
    rw (p.1, p.2) (stops_here _ _ _ _ c.args.tokens.now (drop l.to c.args.tokens.now) (drop c.in-Some.next c.args.tokens.now) c.in_err-one.field-0.0 l.invariant.reads (sym c.in-Some.ensures.value) c.in_err-one.ensures.gives some)

pub more_suffixes-more-preserved : goal.more_suffixes-more-preserved
more_suffixes-more-preserved t c =
    let l = c.more in
    let x = c.in_ok-one.one in
    let views = ap (map suffix_view) c.in_ok-push_within.ensures.ok ∙ map_push suffix_view l.suffixes x in
    let less : length (drop c.in_ok-one.after c.args.tokens.now) < length (drop l.to c.args.tokens.now) = simp length-drop (omega (arith, l.invariant.there.within, c.in-Some.ensures.there.0, c.in_ok-one.ensures.moves.past)) in
    record {
      past = omega (arith, l.invariant.past, c.in-Some.ensures.there.0, c.in_ok-one.ensures.moves.past);
      there = c.in_ok-one.ensures.moves.there;
      reads = rw views (loop_goes_on _ _ _ (map suffix_view l.suffixes) (drop l.to c.args.tokens.now) (drop c.in-Some.next c.args.tokens.now) (drop c.in_ok-one.after c.args.tokens.now) (suffix_view x) l.invariant.reads (sym c.in-Some.ensures.value) c.in_ok-one.ensures.gives less);
    }

pub more_suffixes-returns-clause-gives : goal.more_suffixes-returns-clause-gives
more_suffixes-returns-clause-gives t c =
    let l = c.more in
    let some : 0 < length (drop l.to c.args.tokens.now) = simp length-drop (omega (arith, l.invariant.there.within)) in
    loop_ends _ _ _ (map suffix_view l.suffixes) (drop l.to c.args.tokens.now) l.invariant.reads (sym c.in_default.ensures.value) some

pub more_terms-more-init : goal.more_terms-more-init
more_terms-more-init t c = record {
  past = omega arith;
  there = c.requires;
  reads = loop_starts _ _ (map expr_view c.args.so_far) (drop c.args.at c.args.tokens.now);
}

pub more_terms-returns-in_err-one-clause-gives : goal.more_terms-returns-in_err-one-clause-gives
more_terms-returns-in_err-one-clause-gives t c =
    let p = err_from_is_err_and c.from_residual.result c.from_residual.ensures.1 in
    let l = c.more in
    let some : 0 < length (drop l.to c.args.tokens.now) = simp length-drop (omega (arith, l.invariant.there.within)) in
    rw (p.1, p.2) (stops_here _ _ _ _ c.args.tokens.now (drop l.to c.args.tokens.now) (drop c.in-Some.next c.args.tokens.now) c.in_err-one.field-0.0 l.invariant.reads (sym c.in-Some.ensures.value) c.in_err-one.ensures.gives some)

pub more_terms-more-preserved : goal.more_terms-more-preserved
more_terms-more-preserved t c =
    let l = c.more in
    let x = c.in_ok-one.one in
    let views = ap (map expr_view) c.in_ok-push.ensures.ok ∙ map_push expr_view l.terms x in
    let less : length (drop c.in_ok-one.after c.args.tokens.now) < length (drop l.to c.args.tokens.now) = simp length-drop (omega (arith, l.invariant.there.within, c.in-Some.ensures.there.0, c.in_ok-one.ensures.moves.past)) in
    record {
      past = omega (arith, l.invariant.past, c.in-Some.ensures.there.0, c.in_ok-one.ensures.moves.past);
      there = c.in_ok-one.ensures.moves.there;
      reads = rw views (loop_goes_on _ _ _ (map expr_view l.terms) (drop l.to c.args.tokens.now) (drop c.in-Some.next c.args.tokens.now) (drop c.in_ok-one.after c.args.tokens.now) (expr_view x) l.invariant.reads (sym c.in-Some.ensures.value) c.in_ok-one.ensures.gives less);
    }

pub more_terms-returns-clause-gives : goal.more_terms-returns-clause-gives
more_terms-returns-clause-gives t c =
    let l = c.more in
    let some : 0 < length (drop l.to c.args.tokens.now) = simp length-drop (omega (arith, l.invariant.there.within)) in
    loop_ends _ _ _ (map expr_view l.terms) (drop l.to c.args.tokens.now) l.invariant.reads (sym c.in_default.ensures.value) some

pub arg_list-returns-clause-gives : goal.arg_list-returns-clause-gives
arg_list-returns-clause-gives t c =
    let made = gives_made (map expr_view) exprs_of c.args.tokens.now c.some_args.result _ c.some_args.ensures.gives in
    let other : is_sign sign.CloseParen c.look.result.now ≡ false = sym c.is_sign.ensures.value ∙ c.if-is_sign.false in
    let read = args_by_parts (reading.expr_in c.args.left (reading.inner c.args.left)) (drop c.args.at c.args.tokens.now) in
    let none = not_closed (reading.expr_in c.args.left (reading.inner c.args.left)) c.look.result.now _ _ c.look.ensures.here other in
    rw (read, none) made

pub expr-returns-in_ok-assigned-in-Ok-clause-gives : goal.expr-returns-in_ok-assigned-in-Ok-clause-gives
expr-returns-in_ok-assigned-in-Ok-clause-gives t c =
    let e = expr_view c.in_ok-e.e in
    let follows : reading.assigns c.look.result.now e ≡ true = sym c.assigns.ensures ∙ c.if-assigns.true in
    let read = reads_becomes c.args.left (reading.inner c.args.left) e c.look.result.now _ _ _ c.in_ok-e.ensures.gives c.look.ensures.here follows in
    let made = ap (λ o. reading.and_then o
    (λ r. reading.pure (tree.assign e r (spells.span_from_to (tree.span_of e) (tree.span_of r))))) c.in-Ok.ensures.gives in
    read ∙ made ∙ ap (λ v. Ok (v, drop c.in-Ok.to c.args.tokens.now)) (sym c.in_ok-assigned-in-Ok.ensures.ok)

pub expr-returns-in-Err-clause-gives : goal.expr-returns-in-Err-clause-gives
expr-returns-in-Err-clause-gives t c =
    let e = expr_view c.in_ok-e.e in
    let follows : reading.assigns c.look.result.now e ≡ true = sym c.assigns.ensures ∙ c.if-assigns.true in
    let read = reads_becomes c.args.left (reading.inner c.args.left) e c.look.result.now _ _ _ c.in_ok-e.ensures.gives c.look.ensures.here follows in
    rw read (stops_first c.args.tokens.now c.in-Err.stop _ (λ r. reading.pure (tree.assign e r (spells.span_from_to (tree.span_of e) (tree.span_of r)))) c.in-Err.ensures.gives)

pub arm-returns-in-Ok-clause-gives : goal.arm-returns-in-Ok-clause-gives
arm-returns-in-Ok-clause-gives t c =
    let made = arm_made c.args.word (reading.seq_in c.args.left (reading.inner c.args.left)) _ _ _ _ _ _ _ c.in_ok-opener.ensures.gives c.in_ok-cond.ensures.gives c.in-Ok.ensures.gives in
    let spans : spells.span_from_to c.in_ok-opener.opener.now.span (seq_span (seq_view c.in-Ok.body)) ≡ c.join-span.result = ap (spells.span_from_to c.in_ok-opener.opener.now.span) (seq_spans c.in-Ok.body) ∙ sym c.join-span.ensures in
    made
    ∙ ap (λ s. Ok (tree.arm_of (seq_view c.in_ok-cond.cond) (seq_view c.in-Ok.body) s, drop c.in-Ok.to c.args.tokens.now)) spans
    ∙ ap (λ a. Ok (a, drop c.in-Ok.to c.args.tokens.now)) (sym (view_arm c.in_ok-cond.cond c.in-Ok.body c.join-span.result))
