use Rattle.std.proofs.Common.{◌<◌, ◌∙◌, take, ◌+◌, ◌++◌, ◌∷◌, [], ℕ, List, length, sum, ap, sym, arith}
use Rattle.pc_choose.specs.{Able.able, Marks.marks_of}
use Rattle.pc_choose.proofs.Places.{mark_small, marks_fit, one_mark_more}
use Rattle.pc_choose.proofs.able.marks.Goals as goal

pub push-requires-clause-few : goal.push-requires-clause-few
push-requires-clause-few c =
    let s = ap sum c.actors.invariant in
    let f = marks_fit c.args.machine.now.configuration c.actors.actor in
    let m = mark_small (able c.args.machine.now.configuration c.actors.actor) in
    let e = c.mark_of.ensures in
    let l = c.actors-test.true in
    omega (arith, s, f, m, e, l)

pub actors-preserved : goal.actors-preserved
actors-preserved c =
    let d = c.args.machine.now.configuration in
    let l : c.actors.actor < length d.actors = omega arith in
    c.in_ok-push.ensures.ok
    ∙ ap (λ (l : List ℕ). l ++ c.mark_of.result ∷ []) c.actors.invariant
    ∙ ap (λ (n : ℕ). take c.actors.actor (marks_of d) ++ n ∷ []) c.mark_of.ensures
    ∙ sym (one_mark_more d c.actors.actor 0 l)
