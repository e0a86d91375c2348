use Rattle.std.proofs.{Common.{◌<◌, length, drop, map, ap, ◌∙◌, sym, arith, length-drop}, lemmas.List.map_push, lemmas.Result.err_from_is_err_and}
use Rattle.pc_tree.specs.View.{method_view}
use Rattle.pc_expr.proofs.Loops.{loop_goes_on, loop_ends, stops_here}
use Rattle.pc_parse.proofs.Loops.{loop_begins}
use Rattle.pc_parse.proofs.methods.methods.Goals as goal

pub more-init : goal.more-init
more-init c = record {
  past = omega arith;
  there = c.requires;
  reads = loop_begins _ _ (drop c.args.at c.args.tokens.now) (map method_view c.new-methods.result) (ap (map method_view) c.new-methods.ensures);
}

pub returns-in_err-one-clause-gives : goal.returns-in_err-one-clause-gives
returns-in_err-one-clause-gives c =
    let p = err_from_is_err_and c.from_residual.result c.from_residual.ensures.1 in
    let l = c.more in
    let some : 0 < length (drop l.to c.args.tokens.now) = simp length-drop (omega (arith, l.invariant.there.within)) in
    rw (p.1, p.2) (stops_here _ _ _ _ c.args.tokens.now (drop l.to c.args.tokens.now) (drop c.in-Some.next c.args.tokens.now) c.in_err-one.field-0.0 l.invariant.reads (sym c.in-Some.ensures.value) c.in_err-one.ensures.gives some)

pub more-preserved : goal.more-preserved
more-preserved c =
    let l = c.more in
    let x = c.in_ok-one.one in
    let views = ap (map method_view) c.in_ok-push.ensures.ok ∙ map_push method_view l.methods x in
    let less : length (drop c.in_ok-one.after c.args.tokens.now) < length (drop l.to c.args.tokens.now) = simp length-drop (omega (arith, l.invariant.there.within, c.in-Some.ensures.there.0, c.in_ok-one.ensures.moves.past)) in
    record {
      past = omega (arith, l.invariant.past, c.in-Some.ensures.there.0, c.in_ok-one.ensures.moves.past);
      there = c.in_ok-one.ensures.moves.there;
      reads = rw views (loop_goes_on _ _ _ (map method_view l.methods) (drop l.to c.args.tokens.now) (drop c.in-Some.next c.args.tokens.now) (drop c.in_ok-one.after c.args.tokens.now) (method_view x) l.invariant.reads (sym c.in-Some.ensures.value) c.in_ok-one.ensures.gives less);
    }

pub returns-clause-gives : goal.returns-clause-gives
returns-clause-gives c =
    let l = c.more in
    let some : 0 < length (drop l.to c.args.tokens.now) = simp length-drop (omega (arith, l.invariant.there.within)) in
    loop_ends _ _ _ (map method_view l.methods) (drop l.to c.args.tokens.now) l.invariant.reads (sym c.in_default.ensures.value) some
